use Rattle.std.proofs.Common.{◌≡◌, ◌+◌, ◌*◌, ◌≤◌, ◌++◌, Some, IfSome}
use Rattle.rx_elem.specs.Spots.{Around}
use Rattle.rx_lists.specs.Shapes.{size}
use Rattle.rx_links.specs.Readers.{IsIn}
use Rattle.rx_read.specs.Lists.{list_of}
use Rattle.rx_host_list.specs.Listed.{hosts_in}
use Rattle.rx_host_list.proofs.listing.+listing.Given as goal

abbrev pub decreases-add_fiber : goal.decreases-add_fiber
decreases-add_fiber l = 2 * size (list_of l.tree.now (Some l.id))

abbrev pub decreases-add_list : goal.decreases-add_list
decreases-add_list l = 2 * size (list_of l.tree.now l.first) + 1

-- with the hosts of the rest of the list they are all of them
abbrev pub invariant-add_list-listing : goal.invariant-add_list-listing
invariant-add_list-listing l = record {
  inside : IfSome l.next (IsIn l.tree);
  left : (a : Around) → a.host ≡ l.parent → a.concealed ≡ l.concealed
      → l.found.items ++ hosts_in a (list_of l.tree l.next) ≡ l.initial.found.items ++ hosts_in a (list_of l.tree l.initial.next);
  within : size (list_of l.tree l.next) ≤ size (list_of l.tree l.initial.next);
}

abbrev pub decreases-add_list-listing : goal.decreases-add_list-listing
decreases-add_list-listing l = size (list_of l.tree l.next)
