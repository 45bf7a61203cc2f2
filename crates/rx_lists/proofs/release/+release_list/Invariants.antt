use Rattle.std.proofs.Common.{◌≤◌}
use Rattle.rx_lists.specs.Freed.{own_list, IsReady, Frees}
use Rattle.rx_lists.specs.Reads.{Nodes, limit, shape_of}
use Rattle.rx_lists.specs.Shapes.{Holds, size}
use Rattle.rx_lists.proofs.release.+release_list.Given as goal

abbrev pub decreases-release_list : goal.decreases-release_list
decreases-release_list g l = size (shape_of limit l.nodes.now l.link)

abbrev pub invariant-loop-next : goal.invariant-loop-next
invariant-loop-next g l = record {
  ready : IsReady l.nodes l.next;
  gives : (new : Nodes g.row.F.Denot) → Frees l.nodes new (Holds (own_list l.nodes l.next)) → Frees l.initial.nodes new (Holds (own_list l.initial.nodes l.initial.next));
  within : size (shape_of limit l.nodes l.next) ≤ size (shape_of limit l.initial.nodes l.initial.next);
}

abbrev pub decreases-loop-next : goal.decreases-loop-next
decreases-loop-next g l = size (shape_of limit l.nodes l.next)
