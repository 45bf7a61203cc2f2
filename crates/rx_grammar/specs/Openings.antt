-- What stands in an opening tag, as plain data.
use Rattle.std.specs.Prelude.{List}
use Rattle.rx_base.specs.Values.{Name}
use Rattle.rx_ast.specs.Syntax as syntax
use Rattle.rx_ast.specs.Syntax.{Expr, Attribute, KeyPlace, Slot, Slots, Ending}
use Rattle.rx_ast.specs.SlotView.{key_place_of}
use Rattle.rx_ast.specs.declared.slot.Tag.{Tag}
use Rattle.rx_ast.specs.declared.slot.Tag.TheVariants as tag

-- an opening tag: its name, and what is given there
pub data Opening : Type 0 where
  host_tag : Name → List Attribute → Opening
  component_tag : Name → List Attribute → Opening
  boundary_tag : KeyPlace → (fallback : Slot) → Opening
  catcher_tag : KeyPlace → (fallback : Slot) → Opening
  provider_tag : (context : Name) → KeyPlace → (value : Expr) → Opening

-- the opening tag of the code
abbrev pub opening_of : Tag → Opening
opening_of (tag.Host x attrs) = host_tag x attrs.items
opening_of (tag.Component x attrs) = component_tag x attrs.items
opening_of (tag.Suspense k s) = boundary_tag (key_place_of k) s.value
opening_of (tag.Catch k s) = catcher_tag (key_place_of k) s.value
opening_of (tag.Provider x k e) = provider_tag x (key_place_of k) e.value

-- the element of an opening tag that ends so and has these children
abbrev pub element : Opening → Ending → Slots → Slot
element (host_tag x attrs) w ss = syntax.host x attrs w ss
element (component_tag x attrs) w ss = syntax.comp x attrs w ss
element (boundary_tag k s) w ss = syntax.boundary k s w ss
element (catcher_tag k s) w ss = syntax.catcher k s w ss
element (provider_tag x k e) w ss = syntax.provider x k e w ss
