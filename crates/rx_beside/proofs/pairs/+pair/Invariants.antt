use Rattle.std.proofs.Common.{◌≡◌, ℕ, true, ◌+◌, ◌*◌, All, length, map, take, Option, Some, None, IfSome}
use Rattle.rx_lists.specs.Shapes.{size}
use Rattle.rx_links.specs.Drafts.{Trees}
use Rattle.rx_fiber.specs.Fibers.{Fiber}
use Rattle.rx_read.specs.Lists.{list_of}
use Rattle.rx_read.specs.Places.{first_node}
use Rattle.rx_beside.specs.declared.places.Pair.{Pair}
use Rattle.rx_beside.specs.Pairs.{AreSame, ArePruned}
use Rattle.rx_beside.specs.Slots.{with_gone}
use Rattle.rx_beside.proofs.Walking.{Walked}
use Rattle.rx_beside.proofs.pairs.+pair.Given as goal

-- how many fibers there are from the made one of a pair on
abbrev pub size_of : Trees Fiber → Option Pair → ℕ
size_of t None = 0
size_of t (Some c) = size (list_of t (Some c.new))

abbrev pub decreases-read_pair : goal.decreases-read_pair
decreases-read_pair l = 10 * size (list_of l.tree.now (Some l.pair.now.new)) + 2

abbrev pub decreases-read_kept : goal.decreases-read_kept
decreases-read_kept l = 10 * size (list_of l.tree.now (Some l.pair.now.new)) + 3

abbrev pub decreases-read_lists : goal.decreases-read_lists
decreases-read_lists l = 10 * size (list_of l.tree.now (Some l.pair.now.new)) + 1

abbrev pub decreases-read_made : goal.decreases-read_made
decreases-read_made l = 10 * size (list_of l.tree.now l.heads.now.new) + 7

abbrev pub decreases-read_listed : goal.decreases-read_listed
decreases-read_listed l = 10 * size (list_of l.tree.now l.heads.now.new) + 6

abbrev pub decreases-read_alone : goal.decreases-read_alone
decreases-read_alone l = 10 * size (list_of l.tree.now (Some l.only.now.pair.new)) + 5

abbrev pub decreases-read_in_place : goal.decreases-read_in_place
decreases-read_in_place l = 10 * size (list_of l.tree.now l.heads.now.new) + 5

abbrev pub decreases-add_place : goal.decreases-add_place
decreases-add_place l = 10 * size_of l.tree.now l.place.now + 3

abbrev pub decreases-read_matched : goal.decreases-read_matched
decreases-read_matched l = 10 * size (list_of l.tree.now l.heads.now.new) + 5

abbrev pub decreases-read_slot : goal.decreases-read_slot
decreases-read_slot l = 10 * size (list_of l.tree.now l.child) + 4

-- what is left of the places so far; and if both are the same still, their nodes are
abbrev pub invariant-read_in_place-going : goal.invariant-read_in_place-going
invariant-read_in_place-going l = record {
  are : ArePruned l.tree l.displaced (take l.i l.pairs.items) l.lists.old.items l.lists.new.items;
  same : l.lists.same ≡ true → All (λ o. IfSome o (AreSame l.tree)) (take l.i l.pairs.items);
}

-- the places so far are walked
abbrev pub invariant-read_matched-going : goal.invariant-read_matched-going
invariant-read_matched-going l = record {
  even : length l.kept.items ≡ length l.olds.items;
  walked : Walked l.displaced (map (λ o. first_node (list_of l.tree o)) l.olds.items) (take l.i l.matching.places.items) (take l.i l.matching.moved.items) (map (λ o. first_node (list_of l.tree o)) (take l.i l.news.items)) (with_gone l.kept.items (map (λ o. first_node (list_of l.tree o)) l.olds.items)) l.nodes.items;
}
