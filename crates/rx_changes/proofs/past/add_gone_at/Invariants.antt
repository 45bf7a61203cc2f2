use Rattle.std.proofs.Common.{◌≡◌, ◌++◌, take}
use Rattle.rx_elem.specs.Trees.{forest}
use Rattle.rx_changes.specs.Phases.{phase_seen}
use Rattle.rx_changes.proofs.Logged.{gone_lines}
use Rattle.rx_changes.proofs.past.add_gone_at.Given as goal

-- what the trees so far destroy
abbrev pub invariant-loop-place : goal.invariant-loop-place
invariant-loop-place l = l.lines.items ≡ l.initial.lines.items ++ gone_lines (phase_seen l.phase) l.visible (forest l.old) (take l.place-index l.places)
