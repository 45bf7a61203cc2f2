use Rattle.std.proofs.Common.{length}
use Rattle.rx_lists.specs.Reads.{Nodes, limit}
use Rattle.rx_lists.specs.Shapes.{is_among}
use Rattle.rx_lists.specs.Ways.{ups, IsWay}
use Rattle.rx_lists.specs.Marks.{touched, Revalues}
use Rattle.rx_lists.proofs.mark.mark_up.Given as goal

abbrev pub invariant-loop-next : goal.invariant-loop-next
invariant-loop-next g l = record {
  way : IsWay l.nodes l.next;
  gives : (new : Nodes g.row.F.Denot) → Revalues l.nodes new (touched l.nodes (is_among (ups limit l.nodes l.next)) (g.F.Mark.marked l.by))
      → Revalues l.initial.nodes new (touched l.initial.nodes (is_among (ups limit l.initial.nodes l.initial.next)) (g.F.Mark.marked l.by));
}

abbrev pub decreases-loop-next : goal.decreases-loop-next
decreases-loop-next g l = length (ups limit l.nodes l.next)
