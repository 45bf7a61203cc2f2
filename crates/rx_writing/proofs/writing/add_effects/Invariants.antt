use Rattle.std.proofs.Common.{◌≡◌, map, take}
use Rattle.rx_lines.specs.Lines.{logged}
use Rattle.rx_writing.specs.Written.{with_lines}
use Rattle.rx_writing.proofs.writing.add_effects.Given as goal

-- the lines so far
abbrev pub invariant-effects : goal.invariant-effects
invariant-effects l = l.log ≡ with_lines l.fn.log (map logged (take l.line-index l.lines))
