use Rattle.std.proofs.Common.{◌≡◌, ◌++◌, ◌+◌, ◌*◌, drop}
use Rattle.rx_ast.specs.Syntax.{slots_of, at_once, no_slots}
use Rattle.rx_ast.specs.SlotView.{tagged}
use Rattle.rx_ast.specs.Depth.{slot_depth, slots_depth}
use Rattle.rx_print.specs.Printing.{slots_tokens}
use Rattle.rx_print.proofs.printer.Printer.+slot.Given as goal

abbrev pub decreases-slot : goal.decreases-slot
decreases-slot l = 4 * slot_depth l.slot.now + 3

abbrev pub decreases-child : goal.decreases-child
decreases-child l = 4 * slot_depth l.child.now + 3

abbrev pub decreases-element : goal.decreases-element
decreases-element l = 4 * slot_depth l.element.now + 1

abbrev pub decreases-tag_given : goal.decreases-tag_given
decreases-tag_given l = 4 * slot_depth (tagged l.tag.now at_once no_slots)

abbrev pub decreases-children : goal.decreases-children
decreases-children l = 4 * slots_depth (slots_of l.children.now) + 4

-- what is written and what is left make the whole
abbrev pub invariant-children-loop-child : goal.invariant-children-loop-child
invariant-children-loop-child l =
    l.self ++ slots_tokens (slots_of (drop l.child-index l.children)) ≡ l.fn.self ++ slots_tokens (slots_of l.children)
