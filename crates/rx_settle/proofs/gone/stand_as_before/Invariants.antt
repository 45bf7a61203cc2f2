use Rattle.std.proofs.Common.{◌≡◌, ℕ, ◌<◌, ◌≤◌, true, Some, length, slice_get}
use Rattle.rx_settle.specs.Passes.{has_instance}
use Rattle.rx_settle.proofs.gone.stand_as_before.Given as goal

-- there are no more old instances than new ones, and each old number so far is that of one of the new ones
abbrev pub invariant-comparing : goal.invariant-comparing
invariant-comparing l =
    (length l.before ≤ length l.instances)
    × ((k : ℕ) → k < l.place → (n : ℕ) → slice_get l.before k ≡ Some n → has_instance l.instances n ≡ true)
