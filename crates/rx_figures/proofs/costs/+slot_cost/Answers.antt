use Rattle.std.proofs.Common.{◌≤◌, ◌-◌, arith}
use Rattle.rx_ast.specs.Syntax.{slots_of}
use Rattle.rx_ast.specs.Depth.{slot_depth, slots_depth}
use Rattle.rx_mentions.proofs.Depths.{slot_depth-get_or}
use Rattle.rx_figures.proofs.costs.+slot_cost.Goals as goal

pub slots-child-requires : goal.slots-child-requires
slots-child-requires t c =
    let below : slot_depth c.index-children-at.result ≤ slots_depth (slots_of c.args.children.now) =
    rw c.index-children-at.is (slot_depth-get_or c.args.children.now (c.loop-at.at - 1) c.index-children-at.result (omega arith))
    in (omega (arith, c.decreases, below), tt)
