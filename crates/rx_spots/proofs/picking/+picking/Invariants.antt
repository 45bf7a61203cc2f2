use Rattle.std.proofs.Common.{◌≡◌, ◌+◌, ◌*◌, ◌++◌, drop}
use Rattle.rx_set.specs.Sets.{holds}
use Rattle.rx_elem.specs.Spots.{Around, mounted_at, spots_in}
use Rattle.rx_elem.specs.Trees.{forest, height, height_in}
use Rattle.rx_spots.specs.Places.{among}
use Rattle.rx_spots.proofs.picking.+picking.Given as goal

abbrev pub decreases-pick_from : goal.decreases-pick_from
decreases-pick_from l = 2 * height l.node.now + 1

abbrev pub decreases-pick_in : goal.decreases-pick_in
decreases-pick_in l = 2 * height_in (forest l.places.now) + 2

-- what was found so far and what is found from here on make the whole
abbrev pub invariant-pick_in-loop-place : goal.invariant-pick_in-loop-place
invariant-pick_in-loop-place l =
    (a : Around) → a.owner ≡ l.owner → a.visible ≡ l.visible
    → l.found.items ++ among (holds l.asked) (mounted_at (spots_in a (forest (drop l.place-index l.places))))
    ≡ l.initial.found.items ++ among (holds l.asked) (mounted_at (spots_in a (forest l.places)))
