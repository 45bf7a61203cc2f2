-- What a root keeps of all resources, by their numbers, and what is made of it.
use Rattle.std.specs.Prelude.{ℕ, List, ℤ, slice_index_or, slice_set}
use Rattle.rx_lane.specs.declared.lane.Lane.{Lane}
use Rattle.rx_lane.specs.Lanes.{Lanes}
use Rattle.rx_resources.specs.Kept.{Kept, opening, refreshed, relinked, resolved}

-- what is kept of a resource
abbrev pub kept_at : List Kept → (resource : ℕ) → Kept
kept_at kept r = slice_index_or kept r opening

-- another version of a resource is asked for, by an update with this number and this lane
abbrev pub asked_at : (number : ℕ) → Lane → (resource : ℕ) → List Kept → List Kept
asked_at n l r kept = slice_set kept r (refreshed (record { number = n; lane = l }) (kept_at kept r))

-- a transition links its lane with the lanes of a resource that are pending still
abbrev pub linked_at : Lane → (pending : Lanes) → (resource : ℕ) → List Kept → List Kept
linked_at l pending r kept = slice_set kept r (relinked l pending (kept_at kept r))

-- the next version of a resource gets its value
abbrev pub resolved_at : ℤ → (resource : ℕ) → List Kept → List Kept
resolved_at x r kept = slice_set kept r (resolved x (kept_at kept r))
