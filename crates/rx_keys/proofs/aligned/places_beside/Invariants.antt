use Rattle.std.proofs.Common.{◌≡◌, ◌++◌, drop, map}
use Rattle.rx_elem.specs.Identity.{identified, old_places}
use Rattle.rx_keys.proofs.Matches.{place_of}
use Rattle.rx_keys.proofs.aligned.places_beside.Given as goal

-- the places so far and those of the children from here on are all
abbrev pub invariant-loop-place : goal.invariant-loop-place
invariant-loop-place l = old_places l.old l.new ≡ l.places.items ++ map (place_of l.old) (drop l.place (identified l.new))
