use Rattle.std.proofs.Common.{◌≡◌, ◌+◌, ◌*◌, ◌<◌, ◌≤◌, ◌^◌, Some, IfSome}
use Rattle.rx_elem.specs.ElementSize.{held}
use Rattle.rx_lists.specs.Shapes.{Holds, size}
use Rattle.rx_links.specs.Readers.{list_from}
use Rattle.rx_instances.specs.CountedFibers.{counted_list}
use Rattle.rx_instances.proofs.counts.+counting.Given as goal

abbrev pub decreases-count_at : goal.decreases-count_at
decreases-count_at l = 2 * size (list_from l.tree.now.current (Some l.id))

abbrev pub decreases-count_in : goal.decreases-count_in
decreases-count_in l = 2 * size (list_from l.tree.now.current l.first) + 1

-- the count so far and that from here on make the whole
abbrev pub invariant-count_in-siblings : goal.invariant-count_in-siblings
invariant-count_in-siblings l = record {
  inside : IfSome l.next (Holds l.tree.current);
  whole : held (counted_list l.only_hidden (list_from l.tree.current l.initial.next)) ≡ held (l.count + counted_list l.only_hidden (list_from l.tree.current l.next));
  fits : l.count < 2 ^ 64;
  within : size (list_from l.tree.current l.next) ≤ size (list_from l.tree.current l.initial.next);
}

abbrev pub decreases-count_in-siblings : goal.decreases-count_in-siblings
decreases-count_in-siblings l = size (list_from l.tree.current l.next)
