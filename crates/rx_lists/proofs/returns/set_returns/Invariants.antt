use Rattle.rx_lists.specs.Adopted.{Relinks}
use Rattle.rx_lists.specs.Reads.{Nodes, limit, shape_of, IsRead}
use Rattle.rx_lists.specs.Shapes.{IsTree, size}
use Rattle.rx_lists.proofs.returns.set_returns.Given as goal

abbrev pub invariant-loop-next : goal.invariant-loop-next
invariant-loop-next g l = record {
  read : IsRead l.nodes l.next;
  once : IsTree (shape_of limit l.nodes l.next);
  gives : (new : Nodes g.row.F.Denot) → Relinks l.nodes new (shape_of limit l.nodes l.next) l.up → Relinks l.initial.nodes new (shape_of limit l.initial.nodes l.initial.next) l.up;
}

abbrev pub decreases-loop-next : goal.decreases-loop-next
decreases-loop-next g l = size (shape_of limit l.nodes l.next)
