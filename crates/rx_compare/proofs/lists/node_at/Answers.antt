use Rattle.std.proofs.Common.{◌≡◌, ◌∙◌, Some, ap, sym, option_and_then}
use Rattle.std.specs.Option.{option_copied}
use Rattle.rx_elem.specs.Trees.{forest}
use Rattle.rx_elem.specs.Compare.{node_at}
use Rattle.rx_compare.proofs.Places.{node_at-within, node_at-past}
use Rattle.rx_compare.proofs.lists.node_at.Goals as goal

pub returns-in_err-get : goal.returns-in_err-get
returns-in_err-get c =
    let ns = c.args.nodes.now in
    let place : c.args.place ≡ Some c.in_ok-place.field-0 = c.in_ok-place.was in
    ap option_copied c.from_residual-in_err-get.ensures
    ∙ node_at-past ns c.in_ok-place.field-0 c.in_err-get.ensures.lookup.3
    ∙ ap (option_and_then (node_at (forest ns))) (sym place)

pub returns : goal.returns
returns c =
    let ns = c.args.nodes.now in
    let place : c.args.place ≡ Some c.in_ok-place.field-0 = c.in_ok-place.was in
    let seen = c.in_ok-get.ensures.lookup in
    c.as_ref.ensures.value
    ∙ node_at-within ns c.in_ok-place.field-0 c.in_ok-get.field-0.now seen.3.0 seen.1
    ∙ ap (option_and_then (node_at (forest ns))) (sym place)
