use Rattle.std.proofs.Common.{◌∙◌, ap, arith, map}
use Rattle.std.proofs.lemmas.List.{take_all}
use Rattle.rx_compare.specs.Matched.{element_at}
use Rattle.rx_compare.proofs.Places.{map-element_at}
use Rattle.rx_compare.proofs.lists.elements_of.Goals as goal

pub returns-clause-are : goal.returns-clause-are
returns-clause-are c =
    c.loop-place.invariant
    ∙ ap (map element_at) (take_all c.loop-place.place-index c.args.nodes.now (omega (arith, c.loop-place-test.false)))
    ∙ map-element_at c.args.nodes.now
