use Rattle.std.proofs.Common.{◌≤◌}
use Rattle.rx_lists.specs.Marks.{touched, Revalues, CanMark}
use Rattle.rx_lists.specs.Reads.{Nodes, limit, shape_of}
use Rattle.rx_lists.specs.Shapes.{holds, size}
use Rattle.rx_lists.proofs.mark.+mark_list.Given as goal

abbrev pub decreases-mark_list : goal.decreases-mark_list
decreases-mark_list g l = size (shape_of limit l.nodes.now l.link)

abbrev pub invariant-loop-next : goal.invariant-loop-next
invariant-loop-next g l = record {
  can : CanMark l.nodes l.next;
  gives : (new : Nodes g.row.F.Denot) → Revalues l.nodes new (touched l.nodes (holds (shape_of limit l.nodes l.next)) (g.F.Mark.marked l.by))
      → Revalues l.initial.nodes new (touched l.initial.nodes (holds (shape_of limit l.initial.nodes l.initial.next)) (g.F.Mark.marked l.by));
  within : size (shape_of limit l.nodes l.next) ≤ size (shape_of limit l.initial.nodes l.initial.next);
}

abbrev pub decreases-loop-next : goal.decreases-loop-next
decreases-loop-next g l = size (shape_of limit l.nodes l.next)
