use Rattle.std.proofs.Common.{◌≡◌, ◌<◌, ℕ, Some, slice_get}
use Rattle.rx_set.proofs.places.first_place.Given as goal

-- the number stands at no place so far
abbrev pub invariant-looking : goal.invariant-looking
invariant-looking l = (i : ℕ) → i < l.place → slice_get l.members i ≡ Some l.number → ⊥
