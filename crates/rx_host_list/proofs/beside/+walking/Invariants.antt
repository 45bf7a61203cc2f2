use Rattle.std.proofs.Common.{◌≡◌, ◌+◌, ◌*◌, ◌≤◌, ℕ, Bool, List, Some, IfSome}
use Rattle.rx_elem.specs.Spots.{Around}
use Rattle.rx_forest.specs.Hosts.{Host}
use Rattle.rx_set.specs.Sets.{holds}
use Rattle.rx_lists.specs.Shapes.{size}
use Rattle.rx_links.specs.Readers.{IsIn}
use Rattle.rx_read.specs.Lists.{list_of}
use Rattle.rx_host_list.specs.Walks.{HasWalked, spots_of}
use Rattle.rx_host_list.proofs.beside.+walking.Given as goal

abbrev pub decreases-walk_from : goal.decreases-walk_from
decreases-walk_from l = 2 * size (list_of l.tree.now (Some l.id))

abbrev pub decreases-walk : goal.decreases-walk
decreases-walk l = 2 * size (list_of l.tree.now l.first) + 1

-- with the rest of the list all of it is gone over
abbrev pub invariant-walk-walking : goal.invariant-walk-walking
invariant-walk-walking l = record {
  inside : IfSome l.next (IsIn l.tree);
  left : (a : Around) → a.host ≡ l.above.host → a.concealed ≡ l.above.concealed → (after : ℕ → Bool) (all : List Host)
      → HasWalked (holds l.wanted) (holds l.met) after l.found.items all (spots_of a (list_of l.tree l.next))
      → HasWalked (holds l.wanted) (holds l.initial.met) after l.initial.found.items all (spots_of a (list_of l.tree l.initial.next));
  within : size (list_of l.tree l.next) ≤ size (list_of l.tree l.initial.next);
}

abbrev pub decreases-walk-walking : goal.decreases-walk-walking
decreases-walk-walking l = size (list_of l.tree l.next)
