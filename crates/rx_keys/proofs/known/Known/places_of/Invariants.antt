use Rattle.std.proofs.Common.{◌≡◌, ◌++◌, drop, take, map}
use Rattle.rx_elem.specs.Identity.{identified, old_places}
use Rattle.rx_keys.specs.Found.{CountsKeys}
use Rattle.rx_keys.proofs.Matches.{place_of}
use Rattle.rx_keys.proofs.known.Known.places_of.Given as goal

-- the places so far and those of the children from here on are all; the table counts the keys so far
abbrev pub invariant-loop-place : goal.invariant-loop-place
invariant-loop-place l =
    (old_places l.self.children.now l.children ≡ l.places.items ++ map (place_of l.self.children.now) (drop l.place (identified l.children)))
    × CountsKeys l.counts (take l.place l.children)
