use Rattle.std.proofs.Common.{◌≡◌, ◌+◌, ◌*◌, ◌++◌, drop}
use Rattle.std.specs.List.{filter_map}
use Rattle.rx_elem.specs.Spots.{Around, spots_in}
use Rattle.rx_elem.specs.Trees.{forest, height, height_in}
use Rattle.rx_forest.specs.Hosts.{host_at}
use Rattle.rx_host_ops.proofs.reading.+reading.Given as goal

abbrev pub decreases-add_from : goal.decreases-add_from
decreases-add_from l = 2 * height l.node.now + 1

abbrev pub decreases-add_in : goal.decreases-add_in
decreases-add_in l = 2 * height_in (forest l.places.now) + 2

-- what was found so far and what is found from here on make the whole
abbrev pub invariant-add_in-loop-place : goal.invariant-add_in-loop-place
invariant-add_in-loop-place l =
    (a : Around) → a.host ≡ l.parent → a.concealed ≡ l.concealed
    → l.found.items ++ filter_map host_at (spots_in a (forest (drop l.place-index l.places))) ≡ l.initial.found.items ++ filter_map host_at (spots_in a (forest l.places))
