use Rattle.std.proofs.Common.{◌+◌, ◌*◌, drop}
use Rattle.rx_elem.specs.Trees.{forest, height, height_in}
use Rattle.rx_spots.specs.Places.{HaveSameIn}
use Rattle.rx_spots.proofs.alike.+comparing.Given as goal

abbrev pub decreases-are_alike : goal.decreases-are_alike
decreases-are_alike l = 2 * height l.old.now + 1

abbrev pub decreases-are_alike_in : goal.decreases-are_alike_in
decreases-are_alike_in l = 2 * height_in (forest l.old.now) + 2

-- the lists have the same if they have from here on
abbrev pub invariant-are_alike_in-pairing : goal.invariant-are_alike_in-pairing
invariant-are_alike_in-pairing l = HaveSameIn (forest (drop l.place l.old)) (forest (drop l.place l.new)) → HaveSameIn (forest l.old) (forest l.new)
