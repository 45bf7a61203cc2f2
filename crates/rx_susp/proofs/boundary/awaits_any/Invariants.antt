use Rattle.std.proofs.Common.{◌≡◌, ℕ, ◌<◌, false, ◌&&◌}
use Rattle.rx_base.specs.Awaits.{has}
use Rattle.rx_susp.proofs.boundary.awaits_any.Given as goal

-- no resource so far is in both sets
abbrev pub invariant-loop-resource : goal.invariant-loop-resource
invariant-loop-resource l = (r : ℕ) → r < l.resource → (has l.waits r && has l.resolved r) ≡ false
