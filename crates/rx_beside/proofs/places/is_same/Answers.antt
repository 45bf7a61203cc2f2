use Rattle.std.proofs.Common.{subst, ◌∙◌}
use Rattle.rx_elem.specs.Trees.{element_of}
use Rattle.rx_compare.specs.InPlace.{IsInPlace}
use Rattle.rx_read.proofs.Links.{by_value}
use Rattle.rx_beside.proofs.Here.{element_is}
use Rattle.rx_beside.proofs.places.is_same.Goals as goal

pub returns : goal.returns
returns c e = λ o n was is.
    let t = c.args.tree.now in
    let old = c.args.pair.now.old in
    let new = c.args.pair.now.new in
    let l = by_value t c.facts.ensures.fits c.facts.ensures.linked old c.value.result.now c.requires.was.inside c.value.ensures.current c.value.ensures.made in
    let k = by_value t c.facts.ensures.fits c.facts.ensures.linked new c.value-2.result.now c.requires.is.inside c.value-2.ensures.current c.value-2.ensures.made in
    subst (λ x. IsInPlace x (element_of n)) (c.element.ensures ∙ element_is t old _ _ _ l.2 o was)
    (subst (IsInPlace c.element.result.now) (c.element-2.ensures ∙ element_is t new _ _ _ k.2 n is) (c.is_same_child.ensures e))
