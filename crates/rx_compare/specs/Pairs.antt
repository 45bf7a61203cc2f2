-- How an old list of children and the new one stand beside each other.
use Rattle.rx_elem.specs.Trees.{Forest, elements_in}
use Rattle.rx_compare.specs.declared.pairing.Pairing.{Pairing}
use Rattle.rx_compare.specs.declared.pairing.Pairing.TheVariants as pairing
use Rattle.rx_compare.specs.InPlace.{AreInPlace}
use Rattle.rx_compare.specs.Matched.{IsMatched}

-- each new child is the old one at its place, or the lists were matched
abbrev pub IsPairing : (old new : Forest) → Pairing → Type 0
IsPairing old new pairing.InPlace = AreInPlace old new
IsPairing old new (pairing.Matched m) = IsMatched old (elements_in new) m
