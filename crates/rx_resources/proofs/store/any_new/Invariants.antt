use Rattle.std.proofs.Common.{◌≡◌, ℕ, ◌<◌, false}
use Rattle.rx_resources.specs.Seen.{is_new}
use Rattle.rx_resources.proofs.store.any_new.Given as goal

-- none so far is new
abbrev pub invariant-loop-resource : goal.invariant-loop-resource
invariant-loop-resource l = (r : ℕ) → r < l.resource → is_new l.resources l.seen r ≡ false
