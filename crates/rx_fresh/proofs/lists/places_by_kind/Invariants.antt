use Rattle.std.proofs.Common.{◌≡◌, ◌++◌, drop, map}
use Rattle.rx_elem.specs.Identity.{identified, old_places}
use Rattle.rx_elem.specs.Trees.{elements_in, forest}
use Rattle.rx_keys.proofs.Matches.{place_of}
use Rattle.rx_fresh.proofs.lists.places_by_kind.Given as goal

-- the places so far and those of the children from here on are all
abbrev pub invariant-loop-place : goal.invariant-loop-place
invariant-loop-place l =
    let old = elements_in (forest l.old) in old_places old l.new ≡ l.places.items ++ map (place_of old) (drop l.place (identified l.new))
