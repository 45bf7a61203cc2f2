-- A slot, an element and a child of the code as plain data.
use Rattle.rx_ast.specs.Syntax as syntax
use Rattle.rx_ast.specs.Syntax.{Slot, Slots, no_slots, slots_of, Ending, at_once, by_tag, parentheses, braces, enclosed}
use Rattle.rx_ast.specs.declared.attribute.AttributeKind.{AttributeKind}
use Rattle.rx_ast.specs.declared.attribute.AttributeKind.TheVariants as attribute
use Rattle.rx_ast.specs.declared.attribute.KeyPlace.{KeyPlace}
use Rattle.rx_ast.specs.declared.attribute.KeyPlace.TheVariants as place
use Rattle.rx_ast.specs.declared.slot.SlotKind.{SlotKind}
use Rattle.rx_ast.specs.declared.slot.SlotKind.TheVariants as kind
use Rattle.rx_ast.specs.declared.slot.Tag.{Tag}
use Rattle.rx_ast.specs.declared.slot.Tag.TheVariants as tag
use Rattle.rx_ast.specs.declared.slot.Content.{Content}
use Rattle.rx_ast.specs.declared.slot.Content.TheVariants as content
use Rattle.rx_ast.specs.declared.slot.ChildKind.{ChildKind}
use Rattle.rx_ast.specs.declared.slot.ChildKind.TheVariants as child

-- the attribute of a kind with its parts
abbrev pub attribute_of : AttributeKind → syntax.Attribute
attribute_of (attribute.Key e) = syntax.key e
attribute_of (attribute.Computed x e) = syntax.computed x e
attribute_of (attribute.Literal x t) = syntax.literal x t

-- where the key stands
abbrev pub key_place_of : KeyPlace → syntax.KeyPlace
key_place_of place.Unkeyed = syntax.unkeyed
key_place_of (place.First e) = syntax.key_first e.value
key_place_of (place.Last e) = syntax.key_last e.value

-- how an element of this content ends
abbrev pub ending_of : Content → Ending
ending_of content.AtOnce = at_once
ending_of (content.Children ss) = by_tag

-- the children of an element of this content
abbrev pub children_of : Content → Slots
children_of content.AtOnce = no_slots
children_of (content.Children ss) = slots_of ss.items

-- the element of this tag that ends so and has these children
abbrev pub tagged : Tag → Ending → Slots → Slot
tagged (tag.Host x attrs) w ss = syntax.host x attrs.items w ss
tagged (tag.Component x attrs) w ss = syntax.comp x attrs.items w ss
tagged (tag.Suspense k s) w ss = syntax.boundary (key_place_of k) s.value w ss
tagged (tag.Catch k s) w ss = syntax.catcher (key_place_of k) s.value w ss
tagged (tag.Provider x k e) w ss = syntax.provider x (key_place_of k) e.value w ss

-- the element of this tag with this content
abbrev pub element_of : Tag → Content → Slot
element_of t c = tagged t (ending_of c) (children_of c)

-- the slot of a kind with its parts
abbrev pub slot_of : SlotKind → Slot
slot_of kind.Null = syntax.null
slot_of (kind.Text t) = syntax.words t
slot_of (kind.Value e) = syntax.number_of e
slot_of kind.Children = syntax.children
slot_of (kind.For l) = syntax.repeated l.value.index l.value.bound l.value.limit l.value.item
slot_of (kind.Choice e s t) = syntax.choice e s.value t.value
slot_of (kind.Element e) = e
slot_of (kind.Enclosed e) = enclosed parentheses e

-- the child of a kind with its part
abbrev pub child_of : ChildKind → Slot
child_of (child.Element e) = e
child_of (child.Braced s) = enclosed braces s
