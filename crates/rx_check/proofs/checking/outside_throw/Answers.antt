use Rattle.std.proofs.Common.{◌≡◌, Option, Some, None, true, sym, ap, subst, ◌∙◌}
use Rattle.std.specs.Prelude.{MatchOption, is_some, slice_get}
use Rattle.std.specs.Option.{option_and_then}
use Rattle.rx_base.specs.Values.{Name}
use Rattle.rx_rules.specs.Names.{component_named, root_name}
use Rattle.rx_order.specs.Graphs.{first}
use Rattle.rx_check.specs.Checks.{outside_throws}
use Rattle.rx_check.proofs.Outside.{first-thrown, none-thrown}
use Rattle.rx_check.proofs.checking.outside_throw.Goals as goal

pub returns-in-None : goal.returns-in-None
returns-in-None c = none-thrown c.args.program.now (ap is_some c.in-None.ensures)

pub returns-in-Some : goal.returns-in-Some
returns-in-Some c =
    let p = c.args.program.now in
    let rooted : is_some (component_named p root_name) ≡ true = ap is_some c.in-Some.ensures in
    let same : first (outside_throws p) ≡ option_and_then (slice_get c.args.names.now) c.args.throws =
    first-thrown p c.args.throws c.requires.throws rooted ∙ ap (λ ns. option_and_then (slice_get ns) c.args.throws) (sym c.requires.names) in
    let P : Option Name → Type 0 = λ o. MatchOption c.name_at.result (o ≡ None) (λ x. o ≡ Some x.now) in
    subst P (sym same) c.name_at.ensures
