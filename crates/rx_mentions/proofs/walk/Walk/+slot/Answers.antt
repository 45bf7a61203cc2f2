use Rattle.std.proofs.Common.{◌≤◌, arith}
use Rattle.rx_ast.specs.Syntax.{slots_of}
use Rattle.rx_ast.specs.Depth.{slot_depth, slots_depth}
use Rattle.rx_mentions.proofs.Depths.{slot_depth-get_or}
use Rattle.rx_mentions.proofs.walk.Walk.+slot.Goals as goal

pub children-child-requires : goal.children-child-requires
children-child-requires t c =
    let below : slot_depth c.child-item.result ≤ slots_depth (slots_of c.args.children.now) =
    rw c.child-item.is (slot_depth-get_or c.args.children.now c.loop-child.child-index c.child-item.result c.loop-child-test.true)
    in (omega (arith, c.decreases, below), tt)
