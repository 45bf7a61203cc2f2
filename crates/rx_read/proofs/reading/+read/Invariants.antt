use Rattle.std.proofs.Common.{◌≡◌, ◌+◌, ◌*◌, ◌≤◌, ◌++◌, length, Some, IfSome}
use Rattle.rx_lists.specs.Shapes.{size}
use Rattle.rx_links.specs.Readers.{IsIn}
use Rattle.rx_read.specs.Lists.{list_of}
use Rattle.rx_read.specs.Places.{places_in}
use Rattle.rx_read.proofs.reading.+read.Given as goal

abbrev pub decreases-read_fiber : goal.decreases-read_fiber
decreases-read_fiber l = 3 * size (list_of l.tree.now (Some l.id))

abbrev pub decreases-read_node : goal.decreases-read_node
decreases-read_node l = 3 * size (list_of l.tree.now (Some l.id)) + 1

abbrev pub decreases-read_list : goal.decreases-read_list
decreases-read_list l = 3 * size (list_of l.tree.now l.first) + 2

-- with the places of the rest of the list they are all of them
abbrev pub invariant-read_list-reading : goal.invariant-read_list-reading
invariant-read_list-reading l = record {
  inside : IfSome l.next (IsIn l.tree);
  places : l.nodes.items ++ places_in (length l.nodes.items) (list_of l.tree l.next) ≡ places_in 0 (list_of l.tree l.initial.next);
  within : size (list_of l.tree l.next) ≤ size (list_of l.tree l.initial.next);
}

abbrev pub decreases-read_list-reading : goal.decreases-read_list-reading
decreases-read_list-reading l = size (list_of l.tree l.next)
