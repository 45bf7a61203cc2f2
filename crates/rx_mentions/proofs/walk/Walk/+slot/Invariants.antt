use Rattle.std.proofs.Common.{◌≡◌, ◌++◌, ◌+◌, ◌*◌, false, drop}
use Rattle.rx_ast.specs.Syntax.{slots_of, at_once, no_slots}
use Rattle.rx_ast.specs.SlotView.{tagged}
use Rattle.rx_ast.specs.Depth.{slot_depth, slots_depth}
use Rattle.rx_mentions.specs.Mentions.{slots_mentions}
use Rattle.rx_mentions.proofs.walk.Walk.+slot.Given as goal

abbrev pub decreases-slot : goal.decreases-slot
decreases-slot l = 4 * slot_depth l.slot.now + 3

abbrev pub decreases-child : goal.decreases-child
decreases-child l = 4 * slot_depth l.child.now + 3

abbrev pub decreases-element : goal.decreases-element
decreases-element l = 4 * slot_depth l.element.now + 1

abbrev pub decreases-tag : goal.decreases-tag
decreases-tag l = 4 * slot_depth (tagged l.tag.now at_once no_slots)

abbrev pub decreases-repetition : goal.decreases-repetition
decreases-repetition l = 4 * slot_depth l.repetition.now.item + 4

abbrev pub decreases-children : goal.decreases-children
decreases-children l = 4 * slots_depth (slots_of l.children.now) + 4

-- what is noted and what is left make the whole
abbrev pub invariant-children-loop-child : goal.invariant-children-loop-child
invariant-children-loop-child l =
    record {
      noted : l.self ++ slots_mentions l.scope l.second (slots_of (drop l.child-index l.children)) ≡ l.fn.self ++ slots_mentions l.fn.scope false (slots_of l.children);
      same : l.scope ≡ l.fn.scope;
    }
