-- Made fibers beside their alternates.
use Rattle.std.specs.Prelude.{◌≡◌, ℕ, ◌+◌, ◌-◌, ◌≤◌, Bool, true, false, List, [], ◌∷◌, ◌++◌, All, Option, Some, None, IfSome, length}
use Rattle.rx_elem.specs.Elements.{is_present}
use Rattle.rx_elem.specs.Trees.{Mark, Node, Forest, forest, element_of, shows_fallback}
use Rattle.rx_lists.specs.Shapes.{size}
use Rattle.rx_links.specs.Drafts.{Trees, Makes, old_of}
use Rattle.rx_links.specs.Readers.{made_value_of, value_of}
use Rattle.rx_fiber.specs.Fibers.{Fiber, begun}
use Rattle.rx_fiber.specs.OldLists.{filled}
use Rattle.rx_compare.specs.InPlace.{IsInPlace}
use Rattle.rx_pruned.specs.Pruned.{Pruned, PrunedInPlace, StaysBare}
use Rattle.rx_read.specs.Lists.{list_of}
use Rattle.rx_read.specs.Places.{places_in, first_places, first_node}
use Rattle.rx_beside.specs.declared.lists.PrunedLists.{PrunedLists}
use Rattle.rx_beside.specs.declared.places.Heads.{Heads}
use Rattle.rx_beside.specs.declared.places.Pair.{Pair}
use Rattle.rx_beside.specs.Children.{IsNode}

-- a made fiber and its alternate, which both stand for nodes
pub record IsPair (t : Trees Fiber) (c : Pair) : Type 0 where
  pub made : Makes t.draft c.new
  pub old : old_of t.draft c.new ≡ Some c.old
  pub was : IsNode t c.old
  pub is : IsNode t c.new

-- the made one is of the list to which a link leads
pub record IsPairIn (t : Trees Fiber) (first : Option ℕ) (c : Pair) : Type 0 where
  pub pair : IsPair t c
  pub within : size (list_of t (Some c.new)) ≤ size (list_of t first)

-- the node of the one is that of the other in place
abbrev pub StandsInPlace : Trees Fiber → Pair → Type 0
StandsInPlace t c =
    (o n : Node) → first_node (list_of t (Some c.old)) ≡ Some o → first_node (list_of t (Some c.new)) ≡ Some n → IsInPlace (element_of o) (element_of n)

-- both stand at this place
pub record StandAt (t : Trees Fiber) (c : Pair) (place : ℕ) : Type 0 where
  pub old : (n : ℕ) → first_places n (list_of t (Some c.old)) ≡ filled (place - n) None ++ first_node (list_of t (Some c.old)) ∷ []
  pub new : (n : ℕ) → first_places n (list_of t (Some c.new)) ≡ filled (place - n) None ++ first_node (list_of t (Some c.new)) ∷ []

-- the fibers of a pair are the only ones of their lists from them on, and the node of the one is that of the other in place
pub record IsAlone (t : Trees Fiber) (c : Pair) : Type 0 where
  pub pair : IsPair t c
  pub stands : StandsInPlace t c
  pub old_places : places_in 0 (list_of t (Some c.old)) ≡ first_node (list_of t (Some c.old)) ∷ []
  pub new_places : places_in 0 (list_of t (Some c.new)) ≡ first_node (list_of t (Some c.new)) ∷ []

-- two lists have one child each, and the one is the other in place
pub record IsOnly (t : Trees Fiber) (h : Heads) (c : Pair) : Type 0 where
  pub pair : IsPair t c
  pub stands : StandsInPlace t c
  pub first : h.new ≡ Some c.new
  pub old_places : places_in 0 (list_of t h.old) ≡ first_node (list_of t (Some c.old)) ∷ []
  pub new_places : places_in 0 (list_of t h.new) ≡ first_node (list_of t (Some c.new)) ∷ []

-- two fibers stand for an instance that stays, and had and has no effects
pub record AreBare (u v : Fiber) : Type 0 where
  pub had : Mark
  pub mark : Mark
  pub was : u.stage ≡ begun had
  pub is : v.stage ≡ begun mark
  pub bare : StaysBare had mark
  pub had_shown : shows_fallback had ≡ false
  pub shown : shows_fallback mark ≡ false

-- so do those of a pair
pub record IsBare (t : Trees Fiber) (c : Pair) : Type 0 where
  pub was : Fiber
  pub is : Fiber
  pub old : Some was ≡ value_of t.current c.old
  pub new : Some is ≡ made_value_of t.draft c.new
  pub are : AreBare was is

-- Two lists of which each child stands where it stood, and what is left of them as pairs of fibers: the same nodes may be left out, unless something up to their host is new or moved.
pub data AreInPlace (t : Trees Fiber) (displaced : Bool) : (old new : List (Option Node)) → List (Option Pair) → Type 0 where
  no_more : AreInPlace t displaced [] [] []
  gap : {os ns : List (Option Node)} {cs : List (Option Pair)} → AreInPlace t displaced os ns cs → AreInPlace t displaced (None ∷ os) (None ∷ ns) (None ∷ cs)
  left : {n : Node} {os ns : List (Option Node)} {cs : List (Option Pair)}
      → displaced ≡ false → is_present (element_of n) ≡ true → AreInPlace t displaced os ns cs → AreInPlace t displaced (Some n ∷ os) (Some n ∷ ns) cs
  pair : {o n : Node} {c : Pair} {os ns : List (Option Node)} {cs : List (Option Pair)}
      → first_node (list_of t (Some c.old)) ≡ Some o → first_node (list_of t (Some c.new)) ≡ Some n → IsInPlace (element_of o) (element_of n)
      → AreInPlace t displaced os ns cs → AreInPlace t displaced (Some o ∷ os) (Some n ∷ ns) (Some c ∷ cs)

-- two lists go on, behind so many places, with those up to the place of a pair
pub record Goes (t : Trees Fiber) (displaced : Bool) (c : Pair) (place behind : ℕ) (before after : List (Option Pair)) : Type 0 where
  pub added : List (Option Pair)
  pub are : after ≡ before ++ added
  pub pair : IsPair t c
  pub only : All (λ o. IfSome o (λ d. d ≡ c)) added
  pub old_behind : place + length (first_places place (list_of t (Some c.old))) ≡ behind
  pub new_behind : place + length (first_places place (list_of t (Some c.new))) ≡ behind
  pub then_also : (os ns : List (Option Node)) (cs : List (Option Pair)) → AreInPlace t displaced os ns cs
      → AreInPlace t displaced (first_places place (list_of t (Some c.old)) ++ os) (first_places place (list_of t (Some c.new)) ++ ns) (added ++ cs)

-- what is left of the nodes of a pair
abbrev pub IsPruned : Trees Fiber → (displaced : Bool) → Pair → Node → Node → Type 0
IsPruned t d c p q = (o n : Node) → first_node (list_of t (Some c.old)) ≡ Some o → first_node (list_of t (Some c.new)) ≡ Some n → Pruned d o n p q

-- the nodes of a pair are the same
abbrev pub AreSame : Trees Fiber → Pair → Type 0
AreSame t c = first_node (list_of t (Some c.new)) ≡ first_node (list_of t (Some c.old))

-- what is left of the lists of a pair stands for what is left of those of another
pub record PassesTo (t : Trees Fiber) (displaced : Bool) (c e : Pair) : Type 0 where
  pub pair : IsPair t e
  pub stands : StandsInPlace t e
  pub within : size (list_of t (Some e.new)) ≤ size (list_of t (Some c.new))
  pub passes : (ps qs : Forest) → PrunedInPlace displaced (forest (first_node (list_of t (Some e.old)) ∷ [])) (forest (first_node (list_of t (Some e.new)) ∷ [])) ps qs
      → PrunedInPlace displaced (forest (first_node (list_of t (Some c.old)) ∷ [])) (forest (first_node (list_of t (Some c.new)) ∷ [])) ps qs

-- what is left of the nodes of pairs, place by place: nothing of those that are the same, unless something up to their host is new or moved
pub data ArePruned (t : Trees Fiber) (displaced : Bool) : List (Option Pair) → (old new : List (Option Node)) → Type 0 where
  no_more : ArePruned t displaced [] [] []
  gap : {cs : List (Option Pair)} {ps qs : List (Option Node)} → ArePruned t displaced cs ps qs → ArePruned t displaced (None ∷ cs) (None ∷ ps) (None ∷ qs)
  pair : {c : Pair} {p q : Node} {cs : List (Option Pair)} {ps qs : List (Option Node)}
      → IsPruned t displaced c p q → ArePruned t displaced cs ps qs → ArePruned t displaced (Some c ∷ cs) (Some p ∷ ps) (Some q ∷ qs)
  left : {c : Pair} {cs : List (Option Pair)} {ps qs : List (Option Node)} → displaced ≡ false → AreSame t c → ArePruned t displaced cs ps qs → ArePruned t displaced (Some c ∷ cs) ps qs

-- two lists go on with what is left of a pair; if both are the same still, its nodes are
pub record AddsPruned (t : Trees Fiber) (displaced : Bool) (place : Option Pair) (before after : PrunedLists) : Type 0 where
  pub ps : List (Option Node)
  pub qs : List (Option Node)
  pub old : after.old.items ≡ before.old.items ++ ps
  pub new : after.new.items ≡ before.new.items ++ qs
  pub are : ArePruned t displaced (place ∷ []) ps qs
  pub same : after.same ≡ true → (before.same ≡ true) × IfSome place (AreSame t)
