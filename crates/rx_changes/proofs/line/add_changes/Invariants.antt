use Rattle.std.proofs.Common.{◌≡◌, ◌++◌, take}
use Rattle.std.specs.List.{zip}
use Rattle.rx_node.specs.MarkView.{mark_seen}
use Rattle.rx_changes.specs.Phases.{phase_seen}
use Rattle.rx_changes.proofs.Logged.{changed_lines}
use Rattle.rx_changes.proofs.line.add_changes.Given as goal

-- the lines of the pairs so far
abbrev pub invariant-loop-place : goal.invariant-loop-place
invariant-loop-place l = l.lines.items ≡ l.fn.lines.items ++ changed_lines (phase_seen l.phase) l.created (mark_seen l.mark) (take l.place (zip l.old l.new))
