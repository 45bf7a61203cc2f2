-- Each part of a slot is less deep than the slot.
use Rattle.std.specs.Prelude.{◌+◌, ◌*◌, ◌≤◌, max, List, [], ◌∷◌}
use Rattle.std.proofs.Common.{arith}
use denote.Param.Weighed.{most}
use Rattle.rx_ast.specs.Syntax.{Slot, Slots, Ending, slots_of}
use Rattle.rx_ast.specs.Depth.{slots_depth, slot_size, element_size}
use Rattle.rx_ast.specs.SlotView.{slot_of, element_of, child_of, tagged, ending_of, children_of}
use Rattle.rx_ast.specs.declared.slot.SlotKind.{SlotKind}
use Rattle.rx_ast.specs.declared.slot.SlotKind.TheVariants as kind
use Rattle.rx_ast.specs.declared.slot.Tag.{Tag}
use Rattle.rx_ast.specs.declared.slot.Tag.TheVariants as tag
use Rattle.rx_ast.specs.declared.slot.Content.{Content}
use Rattle.rx_ast.specs.declared.slot.Content.TheVariants as content
use Rattle.rx_ast.specs.declared.slot.ChildKind.{ChildKind}
use Rattle.rx_ast.specs.declared.slot.ChildKind.TheVariants as child
use Rattle.rx_ast.specs.declared.slot.Child.TheDeep.{deep-SlotKind, deep-Tag, deep-Content, deep-ChildKind}

most_le-slots_depth : (ss : List Slot) → most (λ s. slot_size s + 1) ss ≤ 2 * slots_depth (slots_of ss) + 2
most_le-slots_depth [] = omega arith
most_le-slots_depth (s ∷ ss) = omega (arith, most_le-slots_depth ss)

pub slot_falls : (k : SlotKind) → max (deep-SlotKind k) 0 ≤ slot_size (slot_of k)
slot_falls kind.Null = omega arith
slot_falls (kind.Text t) = omega arith
slot_falls (kind.Value e) = omega arith
slot_falls kind.Children = omega arith
slot_falls (kind.For l) = omega arith
slot_falls (kind.Choice e s t) = omega arith
slot_falls (kind.Element e) = omega arith
slot_falls (kind.Enclosed e) = omega arith

pub child_falls : (k : ChildKind) → max (deep-ChildKind k) 0 ≤ slot_size (child_of k)
child_falls (child.Element e) = omega arith
child_falls (child.Braced s) = omega arith

-- the children of an element are less deep than the element
content_le : (c : Content) → deep-Content c ≤ 2 * slots_depth (children_of c) + 2
content_le content.AtOnce = omega arith
content_le (content.Children ss) = omega (arith, most_le-slots_depth ss.items)

-- so is the fallback of a boundary, of Suspense or of errors
tag_falls : (t : Tag) (w : Ending) (ss : Slots) → max (deep-Tag t) (2 * slots_depth ss + 2) ≤ element_size (tagged t w ss)
tag_falls (tag.Host x attrs) w ss = omega arith
tag_falls (tag.Component x attrs) w ss = omega arith
tag_falls (tag.Suspense k s) w ss = omega arith
tag_falls (tag.Catch k s) w ss = omega arith
tag_falls (tag.Provider x k e) w ss = omega arith

pub element_falls : (t : Tag) (c : Content) → max (deep-Tag t) (max (deep-Content c) 0) ≤ element_size (element_of t c)
element_falls t c = omega (arith, content_le c, tag_falls t (ending_of c) (children_of c))
