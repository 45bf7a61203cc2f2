use Rattle.std.proofs.Common.{◌≡◌, ◌≤◌, ◌++◌}
use Rattle.rx_lists.specs.Reads.{limit, shape_of, IsRead}
use Rattle.rx_lists.specs.Shapes.{size, ids}
use Rattle.rx_lists.proofs.walk.+ids_into.Given as goal

abbrev pub decreases-ids_into : goal.decreases-ids_into
decreases-ids_into g l = size (shape_of limit l.nodes.now l.link)

abbrev pub invariant-loop-next : goal.invariant-loop-next
invariant-loop-next g l = record {
  read : IsRead l.nodes l.next;
  gives : l.out.items ++ ids (shape_of limit l.nodes l.next) ≡ l.initial.out.items ++ ids (shape_of limit l.nodes l.initial.next);
  within : size (shape_of limit l.nodes l.next) ≤ size (shape_of limit l.nodes l.initial.next);
}

abbrev pub decreases-loop-next : goal.decreases-loop-next
decreases-loop-next g l = size (shape_of limit l.nodes l.next)
