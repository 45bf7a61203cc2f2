-- Where the instances of a list of trees are.
use Rattle.std.specs.Prelude.{◌≡◌, ℕ, Bool, List, Option, Some, None, option_and_then, cond, filter, slice_get}
use Rattle.rx_elem.specs.Spots.{Around, Mounted, mounted_at, numbers_of, spots, spots_in}
use Rattle.rx_elem.specs.Trees.{Node, Forest, Mark, children_of, fallback_of, instance_in, mark_of, places}
use Rattle.rx_node.specs.Mounts.{mounts_within}

-- a node, if an instance is at it or below
abbrev pub mounting : Node → Option Node
mounting n = cond (mounts_within n) (Some n) None

-- the node at a place of a list, if an instance is at it or below
abbrev pub mounting_at : List (Option Node) → (place : ℕ) → Option Node
mounting_at ns k = option_and_then (λ o. option_and_then mounting o) (slice_get ns k)

-- the number of a node with this mark, if it is an instance that has one
abbrev pub own_number : Mark → Option ℕ
own_number m = option_and_then (λ i. i.number) (instance_in m)

-- the instances of two trees have the same numbers, in the same order
abbrev pub HaveSame : (old new : Node) → Type 0
HaveSame old new = (a b : Around) → numbers_of (mounted_at (spots a old)) ≡ numbers_of (mounted_at (spots b new))

-- so have those of two lists of trees
abbrev pub HaveSameIn : (old new : Forest) → Type 0
HaveSameIn old new = (a b : Around) → numbers_of (mounted_at (spots_in a old)) ≡ numbers_of (mounted_at (spots_in b new))

mutual
  -- Two trees have instances at the same places: their nodes have one number or none, and so it is at each place of their children and of their fallbacks.
  pub data StandAlike : (old new : Node) → Type 0 where
    alike : {o n : Node} → own_number (mark_of o) ≡ own_number (mark_of n)
        → ((k : ℕ) → StandAlikeAt (mounting_at (places (children_of o)) k) (mounting_at (places (children_of n)) k))
        → ((k : ℕ) → StandAlikeAt (mounting_at (places (fallback_of o)) k) (mounting_at (places (fallback_of n)) k)) → StandAlike o n

  -- at a place there is no instance in both, or in both at the same places
  pub data StandAlikeAt : (old new : Option Node) → Type 0 where
    neither : StandAlikeAt None None
    both : {o n : Node} → StandAlike o n → StandAlikeAt (Some o) (Some n)

-- so it is at each place of two lists
abbrev pub StandAlikeIn : (old new : List (Option Node)) → Type 0
StandAlikeIn old new = (k : ℕ) → StandAlikeAt (mounting_at old k) (mounting_at new k)

-- the instances of a list whose numbers are asked for
abbrev pub among : (asked : ℕ → Bool) → List Mounted → List Mounted
among asked = filter (λ m. asked m.number)
