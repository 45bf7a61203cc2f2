-- A list as elements, and back.
use Rattle.std.specs.Prelude.{◌≡◌, List, [], ◌∷◌}
use Rattle.std.proofs.Common.{refl, ap}
use Rattle.rx_elem.specs.Elements.{Element, listed, gathered}

pub listed_gathered : (es : List Element) → listed (gathered es) ≡ es
listed_gathered [] = refl
listed_gathered (e ∷ es) = ap (λ l. e ∷ l) (listed_gathered es)
