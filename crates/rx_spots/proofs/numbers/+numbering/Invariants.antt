use Rattle.std.proofs.Common.{◌≡◌, ◌+◌, ◌*◌, ◌++◌, drop}
use Rattle.rx_elem.specs.Spots.{Around, mounted_at, numbers_of, spots_in}
use Rattle.rx_elem.specs.Trees.{forest, height, height_in}
use Rattle.rx_spots.proofs.numbers.+numbering.Given as goal

abbrev pub decreases-number_from : goal.decreases-number_from
decreases-number_from l = 2 * height l.node.now + 1

abbrev pub decreases-number_in : goal.decreases-number_in
decreases-number_in l = 2 * height_in (forest l.places.now) + 2

-- what was found so far and what is found from here on make the whole
abbrev pub invariant-number_in-loop-place : goal.invariant-number_in-loop-place
invariant-number_in-loop-place l =
    (a : Around)
    → l.found.items ++ numbers_of (mounted_at (spots_in a (forest (drop l.place-index l.places))))
    ≡ l.initial.found.items ++ numbers_of (mounted_at (spots_in a (forest l.places)))
