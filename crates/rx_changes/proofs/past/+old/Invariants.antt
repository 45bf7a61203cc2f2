use Rattle.std.proofs.Common.{◌≡◌, ◌+◌, ◌*◌, ◌++◌, take}
use Rattle.rx_elem.specs.Trees.{height, height_in, forest}
use Rattle.rx_compare.specs.ComparedView.{around_seen}
use Rattle.rx_changes.specs.Phases.{phase_seen}
use Rattle.rx_changes.proofs.Logged.{old_lines}
use Rattle.rx_changes.proofs.past.+old.Given as goal

abbrev pub decreases-add_old : goal.decreases-add_old
decreases-add_old l = 2 * height l.node.now

abbrev pub decreases-add_old_list : goal.decreases-add_old_list
decreases-add_old_list l = 2 * height_in (forest l.nodes.now) + 1

-- what the trees so far destroy
abbrev pub invariant-add_old_list-loop-place : goal.invariant-add_old_list-loop-place
invariant-add_old_list-loop-place l = l.lines.items ≡ l.fn.lines.items ++ old_lines (phase_seen l.phase) (around_seen l.around) (take l.place l.nodes)
