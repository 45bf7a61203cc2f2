use Rattle.std.proofs.Common.{◌≡◌, ℕ, ◌<◌, ◌||◌, false, length, drop}
use Rattle.std.specs.Prelude.{slice_index_or}
use Rattle.rx_elem.specs.Identity.{is_reused}
use Rattle.rx_keys.proofs.matching.reused_of.Given as goal

-- an old child is one of the new ones if it is marked or one of those from here on
abbrev pub invariant-loop-place : goal.invariant-loop-place
invariant-loop-place l =
    (length l.marks.items ≡ l.count)
    × ((p : ℕ) → p < l.count → (slice_index_or l.marks.items p false || is_reused (drop l.place-index l.places) p) ≡ is_reused l.places p)
