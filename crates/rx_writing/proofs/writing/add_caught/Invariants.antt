use Rattle.std.proofs.Common.{◌≡◌, map, take}
use Rattle.rx_lines.specs.Lines.{caught}
use Rattle.rx_writing.specs.Written.{with_lines}
use Rattle.rx_writing.proofs.writing.add_caught.Given as goal

-- the lines so far
abbrev pub invariant-caught : goal.invariant-caught
invariant-caught l = l.log ≡ with_lines l.fn.log (map caught (take l.value-index l.values))
