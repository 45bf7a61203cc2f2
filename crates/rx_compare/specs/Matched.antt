-- How the lists of a node are matched.
use Rattle.std.specs.Prelude.{◌≡◌, Bool, List, Option, Some, None}
use Rattle.rx_elem.specs.Elements.{Element}
use Rattle.rx_elem.specs.Elements as elements
use Rattle.rx_elem.specs.Identity.{old_places, removed_places, moves}
use Rattle.rx_elem.specs.Trees.{Node, Forest, element_of, elements_in}
use Rattle.rx_elem.specs.Compare.{Gone}
use Rattle.rx_keys.specs.declared.matching.Matching.{Matching}

-- the element that a place was rendered from
abbrev pub element_at : Option Node → Element
element_at None = elements.null
element_at (Some n) = element_of n

-- an old child that is gone
abbrev pub gone_as : (was_visible : Bool) → Node → Gone
gone_as was_visible n = record { node = n; was_visible = was_visible }

-- what becomes of an old list, by the elements of the new one
pub record IsMatched (old : Forest) (new : List Element) (m : Matching) : Type 0 where
  pub places : m.places.items ≡ old_places (elements_in old) new
  pub moved : m.moved.items ≡ moves (old_places (elements_in old) new)
  pub removed : m.removed.items ≡ removed_places (elements_in old) new
