use Rattle.std.proofs.Common.{◌≡◌, ◌∷◌, ◌+◌, ◌*◌, take, map}
use Rattle.std.specs.Prelude.{pos}
use Rattle.std.specs.List.{range_with_len}
use Rattle.rx_ast.specs.Syntax.{slots_of}
use Rattle.rx_ast.specs.Depth.{slot_depth, slots_depth}
use Rattle.rx_meaning.specs.Body.{element_of, elements_of}
use Rattle.rx_eval.proofs.elements.+element.Given as goal

abbrev pub decreases-element : goal.decreases-element
decreases-element l = 4 * slot_depth l.slot.now + 3

abbrev pub decreases-repetition_of : goal.decreases-repetition_of
decreases-repetition_of l = 4 * slot_depth l.repetition.now.item + 4

abbrev pub decreases-child_element : goal.decreases-child_element
decreases-child_element l = 4 * slot_depth l.child.now + 3

abbrev pub decreases-written_element : goal.decreases-written_element
decreases-written_element l = 4 * slot_depth l.written.now + 1

abbrev pub decreases-elements : goal.decreases-elements
decreases-elements l = 4 * slots_depth (slots_of l.list.now) + 4

-- the items so far are those of the indices so far
abbrev pub invariant-repetition_of-loop-index : goal.invariant-repetition_of-loop-index
invariant-repetition_of-loop-index l =
    l.items.items ≡ map (λ k. element_of l.evaluator l.children ((l.repetition.index, pos k) ∷ l.env) l.repetition.item) (range_with_len 0 l.index)

-- the elements so far are those of the places so far
abbrev pub invariant-elements-loop-child : goal.invariant-elements-loop-child
invariant-elements-loop-child l = l.elements.items ≡ elements_of l.evaluator l.children l.env (slots_of (take l.child-index l.list))
