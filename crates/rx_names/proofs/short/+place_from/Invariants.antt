use Rattle.std.proofs.Common.{length}
use Rattle.rx_names.proofs.short.+place_from.Given as goal

-- each turn looks at one name
abbrev pub decreases-place_from : goal.decreases-place_from
decreases-place_from l = length l.names.now
