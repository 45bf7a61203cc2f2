-- An old tree and the new one that it became, both without some children that stayed the same.
use Rattle.std.specs.Prelude.{◌≡◌, ℕ, Bool, false, ◌||◌, List, [], ◌∷◌, Option, Some, None, option_and_then, if◌then◌else◌}
use Rattle.rx_elem.specs.Elements.{Element}
use Rattle.rx_elem.specs.Identity.{old_places, is_reused}
use Rattle.rx_elem.specs.Trees.{Mark, Node, node, Forest, none, vacant, child, elements_in, effects_in, host_number, instance_in, is_host, is_hidden}
use Rattle.rx_elem.specs.Compare.{Past, pasts, node_at}
use Rattle.rx_compare.specs.InPlace.{AreInPlace, IsInPlace, stayed}

-- The way goes on below an old node and the new one that it became: neither is a hidden boundary, and a host is the same one.
pub record GoesOn (old new : Mark) : Type 0 where
  pub old_shown : is_hidden old ≡ false
  pub new_shown : is_hidden new ≡ false
  pub hosts : is_host old ≡ is_host new
  pub numbers : host_number old ≡ host_number new

-- An instance that stays says nothing itself: it had this number and has it still, and it had and has no effects.
pub record StaysBare (old new : Mark) : Type 0 where
  pub number : ℕ
  pub was : option_and_then (λ i. i.number) (instance_in old) ≡ Some number
  pub is : option_and_then (λ i. i.number) (instance_in new) ≡ Some number
  pub had_none : effects_in old ≡ []
  pub has_none : effects_in new ≡ []

-- a node from one up to the host above the children of a node with this mark is new or moved
abbrev pub displaced_below : (displaced : Bool) → Mark → Bool
displaced_below d m = if is_host m then false else d

-- an old list stands with some of its nodes changed: those that are reused by these elements
pub record KeepsGone (old pruned : Forest) (new : List Element) : Type 0 where
  pub elements : elements_in pruned ≡ elements_in old
  pub gone : (place : ℕ) → is_reused (old_places (elements_in old) new) place ≡ false → node_at pruned place ≡ node_at old place

-- a child that was this one
abbrev pub was : Node → (moved : Bool) → Past
was o moved = record { old = Some o; moved = moved }

mutual
  -- An old node and the new one that it became, and both without some lists that stayed the same: if a list of children is left out, it is one list, no boundary above it is hidden, and nothing from it up to its host is new or moved. If each child stands where it stood, and does so without those that are left out, some may be left out whole.
  pub data Pruned : (displaced : Bool) → (old new pruned_old pruned_new : Node) → Type 0 where
    whole : {d : Bool} {o n : Node} → Pruned d o n o n
    cut : {d : Bool} {e f : Element} {m w : Mark} {ns : Forest}
        → GoesOn m w → displaced_below d w ≡ false → Pruned d (node e m ns none) (node f w ns none) (node e m none none) (node f w none none)
    inside : {d : Bool} {e f : Element} {m w : Mark} {os ns ps qs : Forest}
        → GoesOn m w → KeepsGone os ps (elements_in ns) → PrunedIn (displaced_below d w) (pasts os (elements_in ns)) ns (pasts ps (elements_in ns)) qs
        → Pruned d (node e m os none) (node f w ns none) (node e m ps none) (node f w qs none)
    in_place : {d : Bool} {e f : Element} {m w : Mark} {os ns ps qs : Forest}
        → GoesOn m w → PrunedInPlace (displaced_below d w) os ns ps qs → Pruned d (node e m os none) (node f w ns none) (node e m ps none) (node f w qs none)

  -- Two lists of which each child stands where it stood, both without some: child by child; or, if the only child is an instance that stays and has no effects, as the lists of its own children are.
  pub data PrunedInPlace : (displaced : Bool) → (old new pruned_old pruned_new : Forest) → Type 0 where
    each : {d : Bool} {os ns ps qs : Forest} → AreInPlace os ns → AreInPlace ps qs → PrunedIn d (stayed os) ns (stayed ps) qs → PrunedInPlace d os ns ps qs
    through : {e f : Element} {m w : Mark} {os ns ps qs : Forest}
        → StaysBare m w → IsInPlace e f → PrunedInPlace false os ns ps qs → PrunedInPlace false (child (node e m os none) none) (child (node f w ns none) none) ps qs

  -- The children of a list, each with its past: those that were there may be without some lists, and one that is the same, and was not moved, may be left out itself.
  pub data PrunedIn : (displaced : Bool) → (pasts : List Past) → (new : Forest) → (pruned_pasts : List Past) → (pruned_new : Forest) → Type 0 where
    no_more : {d : Bool} → PrunedIn d [] none [] none
    gap : {d : Bool} {p : Past} {ps qs : List Past} {ns ms : Forest} → PrunedIn d ps ns qs ms → PrunedIn d (p ∷ ps) (vacant ns) (p ∷ qs) (vacant ms)
    same : {d : Bool} {p : Past} {ps qs : List Past} {n : Node} {ns ms : Forest} → PrunedIn d ps ns qs ms → PrunedIn d (p ∷ ps) (child n ns) (p ∷ qs) (child n ms)
    pair : {d moved : Bool} {o n p q : Node} {ps qs : List Past} {ns ms : Forest}
        → Pruned (d || moved) o n p q → PrunedIn d ps ns qs ms → PrunedIn d (was o moved ∷ ps) (child n ns) (was p moved ∷ qs) (child q ms)
    left : {d : Bool} {n : Node} {ps qs : List Past} {ns ms : Forest} → d ≡ false → PrunedIn d ps ns qs ms → PrunedIn d (was n false ∷ ps) (child n ns) qs ms

-- A new tree beside the old one, if there is one, and both without some children that stayed the same.
pub data ArePruned : (old : Option Node) → (new : Node) → (pruned_old : Option Node) → (pruned_new : Node) → Type 0 where
  first : {n : Node} → ArePruned None n None n
  later : {o n p q : Node} → Pruned false o n p q → ArePruned (Some o) n (Some p) q
