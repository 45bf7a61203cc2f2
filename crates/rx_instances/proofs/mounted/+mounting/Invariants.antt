use Rattle.std.proofs.Common.{◌≡◌, ◌+◌, ◌*◌, ◌≤◌, ◌++◌, Some, IfSome}
use Rattle.rx_lists.specs.Shapes.{Holds, size}
use Rattle.rx_links.specs.Readers.{list_from}
use Rattle.rx_instances.specs.MountedFibers.{mounted_from}
use Rattle.rx_instances.proofs.mounted.+mounting.Given as goal

abbrev pub decreases-add_from : goal.decreases-add_from
decreases-add_from l = 2 * size (list_from l.tree.now.current (Some l.id))

abbrev pub decreases-add_in : goal.decreases-add_in
decreases-add_in l = 2 * size (list_from l.tree.now.current l.first) + 1

-- what was found so far and what is found from here on make the whole
abbrev pub invariant-add_in-siblings : goal.invariant-add_in-siblings
invariant-add_in-siblings l = record {
  held : IfSome l.next (Holds l.tree.current);
  whole :
      l.found.items ++ mounted_from l.around (list_from l.tree.current l.next)
      ≡ l.initial.found.items ++ mounted_from l.around (list_from l.tree.current l.initial.next);
  within : size (list_from l.tree.current l.next) ≤ size (list_from l.tree.current l.initial.next);
}

abbrev pub decreases-add_in-siblings : goal.decreases-add_in-siblings
decreases-add_in-siblings l = size (list_from l.tree.current l.next)
