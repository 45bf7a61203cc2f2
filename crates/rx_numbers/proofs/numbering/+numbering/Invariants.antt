use Rattle.std.proofs.Common.{◌≡◌, ◌+◌, ◌*◌, drop}
use Rattle.rx_elem.specs.Numbers.{numbered_in}
use Rattle.rx_elem.specs.Trees.{forest, height, height_in}
use Rattle.rx_numbers.specs.Room.{numbers_seen}
use Rattle.rx_numbers.proofs.Fronts.{in_front}
use Rattle.rx_numbers.proofs.numbering.+numbering.Given as goal

abbrev pub decreases-number : goal.decreases-number
decreases-number l = 2 * height l.node.now + 1

abbrev pub decreases-number_all : goal.decreases-number_all
decreases-number_all l = 2 * height_in (forest l.places.now) + 2

-- the trees so far and those that are left, with their numbers, are all
abbrev pub invariant-number_all-loop-place : goal.invariant-number_all-loop-place
invariant-number_all-loop-place l = record {
  trees : in_front l.all.items (numbered_in (numbers_seen l.next) (forest (drop l.place-index l.places))).1 ≡ (numbered_in (numbers_seen l.initial.next) (forest l.places)).1;
  next : (numbered_in (numbers_seen l.next) (forest (drop l.place-index l.places))).0 ≡ (numbered_in (numbers_seen l.initial.next) (forest l.places)).0;
}
