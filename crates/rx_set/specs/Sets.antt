-- A set of numbers as the list of its members.
use Rattle.std.specs.Prelude.{◌≡◌, ℕ, ◌+◌, Bool, false, List, [], ◌∷◌, ◌++◌, Some, cond, length, nat_eq, slice_get}
use Rattle.std.specs.List.{list_any}
use Rattle.std.specs.List.Sorted.{IsPermutation}

-- a number is in the set
abbrev pub holds : (members : List ℕ) → ℕ → Bool
holds members n = list_any (nat_eq n) members

-- the members once a number was put among them: it is the last one, unless it was there
abbrev pub added : ℕ → (members : List ℕ) → List ℕ
added n members = cond (holds members n) members (members ++ n ∷ [])

-- the members once the number at a place was taken out: what stands there now was the last one, and what stands elsewhere stood there
pub record IsWithout (n place : ℕ) (old new : List ℕ) : Type 0 where
  pub fewer : length new + 1 ≡ length old
  pub here : (k : ℕ) → slice_get new place ≡ Some k → slice_get old (length new) ≡ Some k
  pub elsewhere : (i k : ℕ) → nat_eq i place ≡ false → slice_get new i ≡ Some k → slice_get old i ≡ Some k
  pub rest : IsPermutation old (n ∷ new)
