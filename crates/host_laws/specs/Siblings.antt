-- Which hosts of a new tree the placements of a commit ask for.
use Rattle.std.specs.Prelude.{◌≡◌, ℕ, Bool, true, List, filter}
use Rattle.std.specs.List.{AllByRecursion}
use Rattle.rx_forest.specs.Hosts.{Host}
use Rattle.rx_forest.specs.HostOps.{is_placed, placements}

-- the hosts whose parents are among these
abbrev pub with_parents : (parents : ℕ → Bool) → List Host → List Host
with_parents parents hs = filter (λ h. parents h.parent) hs

-- the parent of each host that is placed is among these
abbrev pub HasPlacedParents : (placed : List ℕ) → (parents : ℕ → Bool) → List Host → Type 0
HasPlacedParents placed parents hs = AllByRecursion (λ h. is_placed placed h.number ≡ true → parents h.parent ≡ true) hs

-- some of the hosts tell where those are placed whose parents are among these
abbrev pub TellPlaces : (parents : ℕ → Bool) → (told all : List Host) → Type 0
TellPlaces parents told all = (placed : List ℕ) → HasPlacedParents placed parents all → placements placed told ≡ placements placed all
