-- Lists of children beside each other without what stayed the same.
use Rattle.std.specs.Prelude.{◌≡◌, ℕ, Bool, false, List, [], ◌∷◌, slice_get, slice_set, Option, Some, None, option_and_then}
use Rattle.std.specs.Option.{option_flatten}
use Rattle.rx_elem.specs.Trees.{Node, Forest, none, elements_in}
use Rattle.rx_elem.specs.Compare.{pasts}
use Rattle.rx_links.specs.Drafts.{or_else}
use Rattle.rx_pruned.specs.Pruned.{Pruned, PrunedIn, PrunedInPlace, KeepsGone}

-- What stands at a place of a new list, by what it was: it stays as it is, or it and what it was are without some lists that stayed the same.
pub data IsSlot (displaced : Bool) : (old new pruned_old pruned_new : Option Node) → Type 0 where
  kept : {o x : Option Node} → IsSlot displaced o x None x
  changed : {o n p q : Node} → Pruned displaced o n p q → IsSlot displaced (Some o) (Some n) (Some p) (Some q)

-- the fiber at a place of a list
abbrev pub fiber_in : List (Option ℕ) → (place : Option ℕ) → Option ℕ
fiber_in fs place = option_flatten (option_and_then (slice_get fs) place)

-- a list of which this node, if there is one, stands at this place
abbrev pub replaced : Option Node → (place : Option ℕ) → List (Option Node) → List (Option Node)
replaced None place ns = ns
replaced (Some n) None ns = ns
replaced (Some n) (Some place) ns = slice_set ns place (Some n)

-- the nodes that stand there, and elsewhere those of another list
abbrev pub with_gone : List (Option Node) → List (Option Node) → List (Option Node)
with_gone [] os = os
with_gone (n ∷ ns) [] = []
with_gone (n ∷ ns) (o ∷ os) = or_else n o ∷ with_gone ns os

-- The children of an old node and those of the new one that it became: left out on both sides, or both without some lists below; where each stands in place, some may be left out themselves.
pub data AreLists (displaced : Bool) : (old new pruned_old pruned_new : Forest) → Type 0 where
  left_out : {ns : Forest} → displaced ≡ false → AreLists displaced ns ns none none
  without_some : {os ns ps qs : Forest}
      → KeepsGone os ps (elements_in ns) → PrunedIn displaced (pasts os (elements_in ns)) ns (pasts ps (elements_in ns)) qs → AreLists displaced os ns ps qs
  in_place : {os ns ps qs : Forest} → PrunedInPlace displaced os ns ps qs → AreLists displaced os ns ps qs
