-- Lists with the same children, place by place.
use Rattle.std.specs.Prelude.{◌≡◌, true, false, List, map}
use Rattle.rx_elem.specs.Elements.{Element, key_of, kind_of, same_kind}
use Rattle.rx_elem.specs.Trees.{Forest, none, vacant, child, element_of, places}
use Rattle.rx_elem.specs.Compare.{Past}

-- a new child is the old one that stands at its place: it has its key and is of its kind
pub record IsInPlace (old new : Element) : Type 0 where
  pub key : key_of old ≡ key_of new
  pub kind : same_kind (kind_of new) (kind_of old) ≡ true

-- each new child is the old one that stands at its place, and where one is vacant both are
abbrev pub AreInPlace : (old new : Forest) → Type 0
AreInPlace none none = Unit {0}
AreInPlace (vacant os) (vacant ns) = AreInPlace os ns
AreInPlace (child o os) (child n ns) = IsInPlace (element_of o) (element_of n) × AreInPlace os ns
AreInPlace _ _ = ⊥

-- the pasts of children that stand where they stood
abbrev pub stayed : Forest → List Past
stayed ns = map (λ o. record { old = o; moved = false }) (places ns)
