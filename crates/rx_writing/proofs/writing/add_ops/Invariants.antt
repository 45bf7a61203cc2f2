use Rattle.std.proofs.Common.{◌≡◌, map, take}
use Rattle.rx_lines.specs.Lines.{operated}
use Rattle.rx_writing.specs.Written.{with_lines}
use Rattle.rx_writing.proofs.writing.add_ops.Given as goal

-- the lines so far
abbrev pub invariant-ops : goal.invariant-ops
invariant-ops l = l.log ≡ with_lines l.fn.log (map operated (take l.op-index l.ops))
