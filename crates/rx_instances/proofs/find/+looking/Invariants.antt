use Rattle.std.proofs.Common.{◌+◌, ◌*◌, ◌≤◌, Some, IfSome}
use Rattle.rx_lists.specs.Shapes.{Holds, size}
use Rattle.rx_links.specs.Readers.{list_from}
use Rattle.rx_instances.specs.NearFibers.{near_fibers}
use Rattle.rx_instances.proofs.Counting.{LeadsOn}
use Rattle.rx_instances.proofs.find.+looking.Given as goal

abbrev pub decreases-look_at : goal.decreases-look_at
decreases-look_at l = 2 * size (list_from l.tree.now.current (Some l.id))

abbrev pub decreases-look_in : goal.decreases-look_in
decreases-look_in l = 2 * size (list_from l.tree.now.current l.first) + 1

-- what is found in the list that is left is found in all of it
abbrev pub invariant-look_in-siblings : goal.invariant-look_in-siblings
invariant-look_in-siblings l = record {
  held : IfSome l.next (Holds l.tree.current);
  leads :
      LeadsOn (near_fibers l.checked l.name (list_from l.tree.current l.initial.next)) (near_fibers l.checked l.name (list_from l.tree.current l.next)) l.initial.left
      l.left;
  within : size (list_from l.tree.current l.next) ≤ size (list_from l.tree.current l.initial.next);
}

abbrev pub decreases-look_in-siblings : goal.decreases-look_in-siblings
decreases-look_in-siblings l = size (list_from l.tree.current l.next)
