use Rattle.std.proofs.Common.{◌∙◌, ap, arith, map}
use Rattle.std.proofs.lemmas.List.{take_all}
use Rattle.rx_compare.specs.Matched.{element_at}
use Rattle.rx_read.specs.Lists.{list_of}
use Rattle.rx_read.specs.Places.{first_node}
use Rattle.rx_beside.proofs.Here.{elements_are}
use Rattle.rx_beside.proofs.lists.elements_of.Goals as goal

pub returns-clause-are : goal.returns-clause-are
returns-clause-are c =
    let t = c.args.tree.now in
    c.loop-child.invariant
    ∙ ap (map (λ o. element_at (first_node (list_of t o)))) (take_all c.loop-child.child-index c.args.fibers.now (omega (arith, c.loop-child-test.false)))
    ∙ elements_are (λ o. first_node (list_of t o)) c.args.fibers.now
