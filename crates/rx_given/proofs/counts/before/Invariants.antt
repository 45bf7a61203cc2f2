use Rattle.std.proofs.Common.{take}
use Rattle.rx_given.specs.Lines.{HasNo}
use Rattle.rx_given.proofs.counts.before.Given as goal

-- it is none of the bytes so far
abbrev pub invariant-bytes : goal.invariant-bytes
invariant-bytes l = HasNo l.end (take l.at l.bytes)
