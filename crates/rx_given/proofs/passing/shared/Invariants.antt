use Rattle.std.proofs.Common.{◌≡◌, ◌+◌, drop}
use Rattle.rx_given.specs.Lines.{shared}
use Rattle.rx_given.proofs.passing.shared.Given as goal

-- they share all bytes so far
abbrev pub invariant-bytes : goal.invariant-bytes
invariant-bytes l = shared l.some l.others ≡ l.at + shared (drop l.at l.some) (drop l.at l.others)
