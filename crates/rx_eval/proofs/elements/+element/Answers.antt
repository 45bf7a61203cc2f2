use Rattle.std.proofs.Common.{◌≤◌, arith}
use Rattle.rx_ast.specs.Syntax.{slots_of}
use Rattle.rx_ast.specs.Depth.{slot_depth, slots_depth}
use Rattle.rx_eval.proofs.Places.{slot_depth-get_or, short-get_or, elements_more, items_more, turns-limit}
use Rattle.rx_eval.proofs.elements.+element.Goals as goal

pub elements-child_element-requires : goal.elements-child_element-requires
elements-child_element-requires t c =
    let i = c.loop-child.child-index in
    let below : slot_depth c.child-item.result ≤ slots_depth (slots_of c.args.list.now) =
    rw c.child-item.is (slot_depth-get_or c.args.list.now i c.child-item.result c.loop-child-test.true)
    in (omega (arith, c.decreases, below), short-get_or c.args.list.now i c.child-item.result c.loop-child-test.true c.child-item.is c.requires)

pub elements-loop-child-preserved : goal.elements-loop-child-preserved
elements-loop-child-preserved t c =
    elements_more c.args.evaluator.now c.args.children.now c.args.env.now c.loop-child.elements.items _ c.args.list.now c.loop-child.child-index c.child-item.result _
    c.loop-child-test.true c.child-item.is c.loop-child.invariant c.in_ok-child_element.ensures c.in_ok-push.ensures.items

pub repetition_of-index_value-requires : goal.repetition_of-index_value-requires
repetition_of-index_value-requires t c =
    omega (arith, turns-limit c.value.result c.args.repetition.now.limit, c.turns-count.ensures, c.loop-index-test.true, c.requires.few)

pub repetition_of-loop-index-preserved : goal.repetition_of-loop-index-preserved
repetition_of-loop-index-preserved t c =
    items_more c.args.evaluator.now c.args.children.now c.args.env.now c.with-env.result c.args.repetition.now.index c.index_value.result c.args.repetition.now.item c.loop-index.items.items _ c.loop-index.index _
    c.loop-index.invariant c.in_ok-element.ensures c.with-env.ensures c.index_value.ensures c.in_ok-push.ensures.items
