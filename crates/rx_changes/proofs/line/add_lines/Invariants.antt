use Rattle.std.proofs.Common.{◌≡◌, ◌++◌, take}
use Rattle.rx_node.specs.MarkView.{mark_seen}
use Rattle.rx_effect.specs.EffectLog.{lines_at}
use Rattle.rx_changes.specs.Phases.{phase_seen}
use Rattle.rx_changes.proofs.line.add_lines.Given as goal

-- the lines of the effects so far
abbrev pub invariant-loop-effect : goal.invariant-loop-effect
invariant-loop-effect l = l.lines.items ≡ l.fn.lines.items ++ lines_at (phase_seen l.phase) l.created (mark_seen l.mark) (take l.effect-index l.effect-items)
