-- Lists and their plain data.
use Rattle.std.proofs.Common.{◌≡◌, List, [], ◌∷◌, refl, ap}
use Rattle.rx_ast.specs.Syntax.{Slot, slots, slots_of, Slots, inner_slots, Ending}
use Rattle.rx_ast.specs.SlotView.{tagged}
use Rattle.rx_ast.specs.declared.slot.Tag.{Tag}
use Rattle.rx_ast.specs.declared.slot.Tag.TheVariants as tag

-- the slots of a list are the list
pub slots-slots_of : (ss : List Slot) → slots (slots_of ss) ≡ ss
slots-slots_of [] = refl
slots-slots_of (s ∷ ss) = ap (λ l. s ∷ l) (slots-slots_of ss)

-- the children of an element are those that it was given
pub inner_slots-tagged : (t : Tag) (w : Ending) (ss : Slots) → inner_slots (tagged t w ss) ≡ ss
inner_slots-tagged (tag.Host x attrs) w ss = refl
inner_slots-tagged (tag.Component x attrs) w ss = refl
inner_slots-tagged (tag.Suspense k s) w ss = refl
inner_slots-tagged (tag.Catch k s) w ss = refl
inner_slots-tagged (tag.Provider x k e) w ss = refl
