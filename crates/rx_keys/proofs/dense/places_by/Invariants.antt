use Rattle.std.proofs.Common.{◌≡◌, ◌++◌, drop, take, map}
use Rattle.rx_elem.specs.Identity.{identified, old_places}
use Rattle.rx_keys.specs.Dense.{FindsNext}
use Rattle.rx_keys.proofs.Matches.{place_of}
use Rattle.rx_keys.proofs.dense.places_by.Given as goal

-- the places so far and those of the children from here on are all; the table has what the next ones can be
abbrev pub invariant-loop-place : goal.invariant-loop-place
invariant-loop-place l =
    (old_places l.old l.new ≡ l.places.items ++ map (place_of l.old) (drop l.place (identified l.new)))
    × FindsNext l.old l.table.items (take l.place l.new)
