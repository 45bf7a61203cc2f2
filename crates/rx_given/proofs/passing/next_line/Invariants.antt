use Rattle.std.proofs.Common.{◌≡◌, drop, take}
use Rattle.rx_given.specs.Lines.{first_line}
use Rattle.rx_given.proofs.Fronts.{behind}
use Rattle.rx_given.proofs.passing.next_line.Given as goal

-- no line ends in the bytes so far
abbrev pub invariant-bytes : goal.invariant-bytes
invariant-bytes l = first_line l.rest ≡ behind (take l.at l.rest) (first_line (drop l.at l.rest))
