use Rattle.std.proofs.Common.{◌≡◌, ◌+◌, ◌*◌, ◌≤◌, ◌||◌, ℕ, Some, IfSome}
use Rattle.rx_set.specs.Sets.{holds}
use Rattle.rx_lists.specs.Shapes.{Holds, size}
use Rattle.rx_links.specs.Readers.{list_from}
use Rattle.rx_ways.specs.Walk.{finds_among, hinted, puts_among}
use Rattle.rx_ways.specs.WaySets.{is_put}
use Rattle.rx_ways.proofs.finding.+walking.Given as goal

abbrev pub decreases-walk_from : goal.decreases-walk_from
decreases-walk_from l = 2 * size (list_from l.tree.now.current (Some l.id))

abbrev pub decreases-walk : goal.decreases-walk
decreases-walk l = 2 * size (list_from l.tree.now.current l.first) + 1

-- what was found so far and what is found from here on make the whole
abbrev pub invariant-walk-siblings : goal.invariant-walk-siblings
invariant-walk-siblings l = record {
  inside : IfSome l.next (Holds l.tree.current);
  finds : l.found || finds_among (hinted l.before l.sent) (holds l.stirred) (list_from l.tree.current l.next)
      ≡ finds_among (hinted l.before l.sent) (holds l.stirred) (list_from l.tree.current l.initial.next);
  puts : (n : ℕ) → is_put l.ways n || puts_among (hinted l.before l.sent) (holds l.stirred) n (list_from l.tree.current l.next)
      ≡ is_put l.initial.ways n || puts_among (hinted l.before l.sent) (holds l.stirred) n (list_from l.tree.current l.initial.next);
  within : size (list_from l.tree.current l.next) ≤ size (list_from l.tree.current l.initial.next);
}

abbrev pub decreases-walk-siblings : goal.decreases-walk-siblings
decreases-walk-siblings l = size (list_from l.tree.current l.next)
