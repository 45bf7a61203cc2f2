use Rattle.std.proofs.Common.{IfOk, ◌≡◌, ap, sym, ◌∙◌, subst}
use Rattle.rx_lists.proofs.Frames.{some-at}
use Rattle.rx_compare.specs.Matched.{element_at}
use Rattle.rx_read.specs.Lists.{list_of}
use Rattle.rx_read.specs.Places.{first_node}
use Rattle.rx_read.proofs.Links.{by_value}
use Rattle.rx_beside.proofs.Here.{element_is}
use Rattle.rx_beside.proofs.lists.element_of.Goals as goal

pub returns-in-Some : goal.returns-in-Some
returns-in-Some c =
    let t = c.args.tree.now in
    let i = c.in-Some.id in
    let n = some-at _ _ _ c.requires c.in-Some.is in
    let l = by_value t c.facts.ensures.fits c.facts.ensures.linked i c.value.result.now n.inside c.value.ensures.current c.value.ensures.made in
    let e = element_is t i _ _ _ l.2 n.node n.stands ∙ ap element_at (sym n.stands) ∙ ap (λ o. element_at (first_node (list_of t o))) (sym c.in-Some.is) in
    subst (λ x. IfOk c.copy.result (λ e. e ≡ x)) (c.element.ensures ∙ e) c.copy.ensures
