use Rattle.std.proofs.Common.{◌≡◌, ◌<◌, ℕ, Some, slice_get}
use Rattle.rx_set.specs.Places.{place_of}
use Rattle.rx_set.proofs.places.note_all.Given as goal

-- the members so far are noted
abbrev pub invariant-noting : goal.invariant-noting
invariant-noting l = (i n : ℕ) → i < l.place → slice_get l.members i ≡ Some n → place_of l.places n ≡ Some i
