use Rattle.std.proofs.Common.{◌+◌, ◌*◌, ◌≤◌, Some, IfSome}
use Rattle.rx_lists.specs.Shapes.{Holds, size}
use Rattle.rx_links.specs.Readers.{list_from}
use Rattle.rx_instances.specs.AwaitedFibers.{waits_list}
use Rattle.rx_instances.proofs.Awaiting.{MakesWhole}
use Rattle.rx_instances.proofs.awaits.+awaiting.Given as goal

abbrev pub decreases-awaits_at : goal.decreases-awaits_at
decreases-awaits_at l = 2 * size (list_from l.tree.now.current (Some l.id))

abbrev pub decreases-awaits_in : goal.decreases-awaits_in
decreases-awaits_in l = 2 * size (list_from l.tree.now.current l.first) + 1

-- the set so far and what is waited for from here on make the whole
abbrev pub invariant-awaits_in-siblings : goal.invariant-awaits_in-siblings
invariant-awaits_in-siblings l = record {
  held : IfSome l.next (Holds l.tree.current);
  whole : MakesWhole (waits_list (list_from l.tree.current l.initial.next)) (waits_list (list_from l.tree.current l.next)) l.awaits;
  within : size (list_from l.tree.current l.next) ≤ size (list_from l.tree.current l.initial.next);
}

abbrev pub decreases-awaits_in-siblings : goal.decreases-awaits_in-siblings
decreases-awaits_in-siblings l = size (list_from l.tree.current l.next)
