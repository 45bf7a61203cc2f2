use Rattle.std.proofs.Common.{◌≡◌, ℕ, ◌<◌, true, None}
use Rattle.std.specs.Prelude.{slice_index_or}
use Rattle.rx_base.specs.Awaits.{has}
use Rattle.rx_causes.proofs.hidden.has_value.Given as goal

-- no resource so far that is waited for has a value
abbrev pub invariant-resolving : goal.invariant-resolving
invariant-resolving l = (r : ℕ) → r < l.resource → has l.awaits r ≡ true → slice_index_or l.resources r None ≡ None
