use Rattle.std.proofs.Common.{length}
use Rattle.rx_keys.proofs.matching.+is_reused.Given as goal

-- each turn looks at one place
abbrev pub decreases-is_reused : goal.decreases-is_reused
decreases-is_reused l = length l.places.now
