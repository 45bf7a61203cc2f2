-- What pruned trees leave out.
use Rattle.std.specs.Prelude.{◌≡◌, ◌+◌, ℕ, List, Option, Some, slice_get}
use Rattle.rx_elem.specs.Trees.{Node}
use Rattle.rx_elem.specs.Spots.{Mounted}
use Rattle.rx_meaning.specs.Settled.{times_numbered, times_numbered_if}

-- what is left out of an old tree and of the new one has the instance of this number equally often
pub record LeaveOutAlike (n : ℕ) (old : Option Node) (new : Node) (pruned_old : Option Node) (pruned_new : Node) : Type 0 where
  pub times : ℕ
  pub old_is : times_numbered_if n old ≡ times_numbered_if n pruned_old + times
  pub new_is : times_numbered n new ≡ times_numbered n pruned_new + times

-- Two instances are one, but for the nearest instance above: they have the same number, component and initial values, and both are visible or neither is.
pub record IsSameInstance (one other : Mounted) : Type 0 where
  pub number : one.number ≡ other.number
  pub component : one.component ≡ other.component
  pub initials : one.initials ≡ other.initials
  pub visible : one.visible ≡ other.visible

-- each instance of a list is one of another list, but for the nearest instance above
abbrev pub AreWithin : List Mounted → List Mounted → Type 0
AreWithin ms ns = (k : ℕ) (m : Mounted) → slice_get ms k ≡ Some m → (j : ℕ) × (n : Mounted) × (slice_get ns j ≡ Some n) × IsSameInstance m n
