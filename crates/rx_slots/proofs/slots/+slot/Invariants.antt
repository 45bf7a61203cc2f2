use Rattle.std.proofs.Common.{◌≡◌, ◌+◌, ◌*◌, length}
use Rattle.rx_lex.specs.Spans.{kinds_of}
use Rattle.rx_grammar.specs.Reading.{children_at}
use Rattle.rx_expression.specs.Results.{in_front}
use Rattle.rx_slots.proofs.slots.+slot.Given as goal

abbrev pub decreases-braced_slot : goal.decreases-braced_slot
decreases-braced_slot l = l.level * 100 + 60

abbrev pub decreases-fallback : goal.decreases-fallback
decreases-fallback l = l.level * 100 + 61

abbrev pub decreases-keyed_fallback : goal.decreases-keyed_fallback
decreases-keyed_fallback l = l.level * 100 + 62

abbrev pub decreases-tag : goal.decreases-tag
decreases-tag l = l.level * 100 + 63

abbrev pub decreases-end_or_element : goal.decreases-end_or_element
decreases-end_or_element l = l.level * 100 + 3

abbrev pub decreases-child : goal.decreases-child
decreases-child l = l.level * 100 + 66

abbrev pub decreases-children : goal.decreases-children
decreases-children l = l.level * 100 + 67

abbrev pub decreases-behind_less : goal.decreases-behind_less
decreases-behind_less l = l.level * 100 + 70

abbrev pub decreases-element : goal.decreases-element
decreases-element l = l.level * 100 + 3

abbrev pub decreases-enclosed : goal.decreases-enclosed
decreases-enclosed l = l.level * 100 + 3

abbrev pub decreases-repeated : goal.decreases-repeated
decreases-repeated l = l.level * 100 + 3

abbrev pub decreases-sides : goal.decreases-sides
decreases-sides l = l.level * 100 + 3

abbrev pub decreases-shown : goal.decreases-shown
decreases-shown l = l.level * 100 + 5

abbrev pub decreases-plain : goal.decreases-plain
decreases-plain l = l.level * 100 + 6

abbrev pub decreases-slot : goal.decreases-slot
decreases-slot l = l.level * 100 + 10

abbrev pub invariant-children-loop-children : goal.invariant-children-loop-children
invariant-children-loop-children l = in_front l.children.items (children_at l.level (kinds_of l.rest)) ≡ children_at l.level (kinds_of l.fn.rest)

abbrev pub decreases-children-loop-children : goal.decreases-children-loop-children
decreases-children-loop-children l = length (kinds_of l.rest)
