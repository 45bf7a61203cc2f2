use Rattle.std.proofs.Common.{◌≡◌, ◌+◌, ◌*◌, ◌≤◌, length, drop}
use Rattle.rx_ast.specs.Syntax.{slots_of, at_once, no_slots}
use Rattle.rx_ast.specs.SlotView.{tagged}
use Rattle.rx_ast.specs.Depth.{slot_depth, slots_depth}
use Rattle.rx_rules.specs.Bounds.{slots_by}
use Rattle.rx_figures.specs.Figures.{figures, known_in}
use Rattle.rx_figures.proofs.figures.+figures.Given as goal

abbrev pub decreases-slot : goal.decreases-slot
decreases-slot l = 4 * slot_depth l.slot.now + 3

abbrev pub decreases-child : goal.decreases-child
decreases-child l = 4 * slot_depth l.child.now + 3

abbrev pub decreases-element : goal.decreases-element
decreases-element l = 4 * slot_depth l.element.now + 1

abbrev pub decreases-tag : goal.decreases-tag
decreases-tag l = 4 * slot_depth (tagged l.tag.now at_once no_slots)

abbrev pub decreases-slots : goal.decreases-slots
decreases-slots l = 4 * slots_depth (slots_of l.children.now) + 4

-- the sum is that of what was passed, from the end on
abbrev pub invariant-slots-loop-at : goal.invariant-slots-loop-at
invariant-slots-loop-at l =
    record {
      within : l.at ≤ length l.children;
      total : l.sum ≡ slots_by (figures l.program) (known_in l.table) l.program (slots_of (drop l.at l.children));
    }

abbrev pub decreases-slots-loop-at : goal.decreases-slots-loop-at
decreases-slots-loop-at l = l.at
