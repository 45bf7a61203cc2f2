use Rattle.std.proofs.Common.{◌≤◌}
use Rattle.rx_lists.specs.Adopted.{CanAdopt, Adopts}
use Rattle.rx_lists.specs.Reads.{Nodes, limit, shape_of}
use Rattle.rx_lists.specs.Shapes.{size}
use Rattle.rx_lists.proofs.returns.+adopt.Given as goal

abbrev pub decreases-adopt : goal.decreases-adopt
decreases-adopt g l = size (shape_of limit l.nodes.now l.link)

abbrev pub invariant-loop-next : goal.invariant-loop-next
invariant-loop-next g l = record {
  can : CanAdopt l.nodes l.next;
  gives : (new : Nodes g.row.F.Denot) → Adopts l.nodes new (shape_of limit l.nodes l.next) → Adopts l.initial.nodes new (shape_of limit l.initial.nodes l.initial.next);
  within : size (shape_of limit l.nodes l.next) ≤ size (shape_of limit l.initial.nodes l.initial.next);
}

abbrev pub decreases-loop-next : goal.decreases-loop-next
decreases-loop-next g l = size (shape_of limit l.nodes l.next)
