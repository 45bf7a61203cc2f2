-- Slots as a list and back.
use Rattle.std.proofs.Common.{◌≡◌, refl, ap}
use Rattle.rx_ast.specs.Syntax.{Slots, no_slots, slot, slots, slots_of}

-- the plain data of the list of slots is the slots
pub slots_of-slots : (ss : Slots) → slots_of (slots ss) ≡ ss
slots_of-slots no_slots = refl
slots_of-slots (slot s ss) = ap (λ l. slot s l) (slots_of-slots ss)
