use Rattle.std.proofs.Common.{◌≡◌, ℕ, ◌<◌, false}
use Rattle.rx_resources.specs.Seen.{is_news}
use Rattle.rx_resources.proofs.store.new_among.Given as goal

-- none so far is news
abbrev pub invariant-loop-resource : goal.invariant-loop-resource
invariant-loop-resource l = (r : ℕ) → r < l.resource → is_news l.resources l.seen l.waits r ≡ false
