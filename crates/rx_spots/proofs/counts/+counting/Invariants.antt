use Rattle.std.proofs.Common.{◌≡◌, ◌+◌, ◌*◌, ◌<◌, ◌^◌, drop}
use Rattle.rx_elem.specs.ElementSize.{held}
use Rattle.rx_elem.specs.Trees.{forest, height, height_in}
use Rattle.rx_spots.specs.Counts.{counted_in}
use Rattle.rx_spots.proofs.counts.+counting.Given as goal

abbrev pub decreases-counted_from : goal.decreases-counted_from
decreases-counted_from l = 2 * height l.node.now + 1

abbrev pub decreases-counted_in : goal.decreases-counted_in
decreases-counted_in l = 2 * height_in (forest l.places.now) + 2

-- the count so far and that from here on make the whole
abbrev pub invariant-counted_in-loop-place : goal.invariant-counted_in-loop-place
invariant-counted_in-loop-place l =
    (held (counted_in l.only_hidden (forest l.places)) ≡ held (l.count + counted_in l.only_hidden (forest (drop l.place-index l.places)))) × (l.count < 2 ^ 64)
