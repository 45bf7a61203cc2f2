-- What surrounds the place that a render has come to, read from the fibers around it.
use Rattle.std.specs.Prelude.{◌≡◌, ℕ, ℤ, suc, ◌+◌, ◌≤◌, Bool, true, false, List, [], ◌∷◌, ◌++◌, Option, Some, None, option_map, option_and_then, length}
use Rattle.rx_base.specs.Awaits.{Awaits}
use Rattle.rx_ctx.specs.Contexts.{moved_in, moves_by}
use Rattle.rx_elem.specs.Elements.{Element}
use Rattle.rx_elem.specs.Elements as elements
use Rattle.rx_elem.specs.Trees.{Mark, of_boundary, Node, forest, none, children_if, fallback_if, is_hidden}
use Rattle.rx_elem.specs.Spots as spots
use Rattle.rx_susp.specs.declared.boundary.BoundaryState.TheVariants.{Hidden}
use Rattle.rx_lists.specs.Shapes.{Shape, fiber}
use Rattle.rx_lists.specs.Shapes as shapes
use Rattle.rx_links.specs.Drafts.{Draft, taken, made, made_size, grafted}
use Rattle.rx_links.specs.Places.{Around, top, below, after}
use Rattle.rx_links.specs.Readers.{value_of, list_from}
use Rattle.rx_meaning.specs.Fresh.{Contexts, part}
use Rattle.rx_meaning.specs.Cursor.{Open, around, trying, falling, guarding, Frame, is_null}
use Rattle.rx_fiber.specs.Fibers.{Fiber, waiting, begun}
use Rattle.rx_fiber.specs.Fibers as stage
use Rattle.rx_fiber.specs.declared.stage.Origin.{Origin}
use Rattle.rx_fiber.specs.OldLists.{begins_fallback}
use Rattle.rx_fiber.specs.Reading.{has_node, IsOf, AreFor, IsOld}
use Rattle.rx_fiber.specs.Stood.{gave, given_in, given_more, StandsBut}

-- this element stands in a current fiber
abbrev pub IsElementOf : Shape Fiber → Option ℕ → Element → Type 0
IsElementOf current o e = option_map (λ v. v.element) (option_and_then (value_of current) o) ≡ Some e

-- a current fiber, if it is there, is shown, and stands where these values are given, but for some contexts
abbrev pub StandsIf : Shape Fiber → (moved : List ℕ) → List (ℕ × ℤ) → Option ℕ → Type 0
StandsIf current moved ws None = Unit {0}
StandsIf current moved ws (Some i) = StandsBut current moved ws (Some i)

-- which of the providers around a place give another value than their old nodes gave, the nearest first
abbrev pub moves_along : Shape Fiber → Around Fiber → List (ℕ × Bool)
moves_along current top = []
moves_along current (below id v o rs k) = moves_by (given_in v.element) (gave current o) (moves_along current k)
moves_along current (after id v o ks k) = moves_along current k

-- the contexts that have another value at a place than at the old one
abbrev pub moved_along : Shape Fiber → Around Fiber → List ℕ
moved_along current k = moved_in (moves_along current k)

-- the fiber of a place that the render has not come to, made for this current fiber, if for one; if it is cloned, it has the element of that one, and is of generation 0; if that one is visible, it stands where the same values are given, but for contexts that have moved
pub record IsWaiting (current : Shape Fiber) (moved : List ℕ) (ws : List (ℕ × ℤ)) (o : Option ℕ) (v : Fiber) (place : ℕ) (e : Element) : Type 0 where
  pub at : v.place ≡ place
  pub element : v.element ≡ e
  pub origin : Origin
  pub stage : v.stage ≡ waiting origin
  pub same : origin.cloned ≡ true → IsElementOf current o e
  pub stands : origin.visible ≡ true → StandsIf current moved ws o
  pub first : origin.cloned ≡ true → origin.generation ≡ 0

-- The children of a list that are still to begin, from a place on, below providers that give these values, some of which have moved: each that isn't null has a fiber, made beside the current fiber of its old node.
pub data AreNext (current : Shape Fiber) (moved : List ℕ) (ws : List (ℕ × ℤ)) : (place : ℕ) → List (Element × Option Node) → Draft Fiber → Type 0 where
  no_more : {n : ℕ} → AreNext current moved ws n [] (taken shapes.none)
  gap : {n : ℕ} {x : Element × Option Node} {xs : List (Element × Option Node)} {d : Draft Fiber}
      → is_null x.0 ≡ true → AreNext current moved ws (suc n) xs d → AreNext current moved ws n (x ∷ xs) d
  next : {n id : ℕ} {v : Fiber} {o : Option ℕ} {x : Element × Option Node} {xs : List (Element × Option Node)} {d : Draft Fiber}
      → is_null x.0 ≡ false → IsWaiting current moved ws o v n x.0 → IsOld current o x.1 → AreNext current moved ws (suc n) xs d
      → AreNext current moved ws n (x ∷ xs) (made id v o (taken shapes.none) d)

-- a list of fibers behind the earlier siblings of a place
abbrev pub behind_earlier : Around Fiber → Shape Fiber → Shape Fiber
behind_earlier top s = s
behind_earlier (below id v o rs k) s = s
behind_earlier (after id v o ks k) s = behind_earlier k (fiber id v (grafted ks) s)

-- what surrounds the list in which a place is
abbrev pub above_list : Around Fiber → Around Fiber
above_list top = top
above_list (below id v o rs k) = below id v o rs k
above_list (after id v o ks k) = above_list k

-- how many fibers are made for the earlier siblings of a place
abbrev pub made_earlier : Around Fiber → ℕ
made_earlier top = 0
made_earlier (below id v o rs k) = 0
made_earlier (after id v o ks k) = suc (made_size ks) + made_earlier k

-- the current fiber for which the nearest earlier sibling of a place was made, if there is one
abbrev pub old_before : Around Fiber → Option ℕ
old_before top = None
old_before (below id v o rs k) = None
old_before (after id v o ks k) = o

-- the fiber right behind the first of a list
abbrev pub second : Shape Fiber → Option ℕ
second shapes.none = None
second (shapes.fiber id v ks rs) = shapes.first rs

-- a current fiber, if it is there, is not that of a fallback
abbrev pub IsOfNode : Shape Fiber → Option ℕ → Type 0
IsOfNode current o = begins_fallback (list_from current o) ≡ false

-- a current fiber, if it is that of a fallback, stands right behind this one
abbrev pub IsOldBehind : Shape Fiber → (before o : Option ℕ) → Type 0
IsOldBehind current before o = begins_fallback (list_from current o) ≡ true → second (list_from current before) ≡ o

-- an earlier sibling of a place that was made for the current fiber of a fallback stands right behind the fiber made for that of its boundary
abbrev pub AreOldBehind : Shape Fiber → Around Fiber → Type 0
AreOldBehind current top = Unit {0}
AreOldBehind current (below id v o rs k) = Unit {0}
AreOldBehind current (after id v o ks k) = IsOldBehind current (old_before k) o × AreOldBehind current k

-- The earlier siblings of a place stand for what is done: whatever follows from the place on, the list stands for both. No more fibers are made for them than they have nodes, and one is made for an old fallback only if the one before it is for the boundary.
pub record AreDone (current : Shape Fiber) (k : Around Fiber) (place : ℕ) (done : List (Option Node)) : Type 0 where
  pub are : (xs : List (Option Node)) (s : Shape Fiber) → AreFor place (forest xs) s → AreFor 0 (forest (done ++ xs)) (behind_earlier k s)
  pub few : made_earlier k ≤ length (spots.spots_in spots.at_root (forest done))
  pub olds : AreOldBehind current k

-- the element of an open node
abbrev pub open_element : Open → Element
open_element (around e m) = e
open_element (trying e old f) = e
open_element (falling e old a) = e
open_element (guarding e f) = e

-- what an open node gives to the contexts below it
abbrev pub given_by : Open → Option (ℕ × ℤ)
given_by x = given_in (open_element x)

-- what open nodes give, innermost first
abbrev pub given_along : List Frame → List (ℕ × ℤ)
given_along [] = []
given_along (f ∷ fs) = given_more (open_element f.node) (given_along fs)

-- the fallback of a boundary
abbrev pub fallback_in : Element → Element
fallback_in elements.null = elements.null
fallback_in (elements.text t) = elements.null
fallback_in (elements.host n k attrs es) = elements.null
fallback_in (elements.comp c k ps es) = elements.null
fallback_in (elements.list marked es) = elements.null
fallback_in (elements.boundary k f es) = f
fallback_in (elements.catcher k f es) = f
fallback_in (elements.provider c k x es) = elements.null

-- the element is that of a boundary
abbrev pub is_boundary : Element → Bool
is_boundary elements.null = false
is_boundary (elements.text t) = false
is_boundary (elements.host n k attrs es) = false
is_boundary (elements.comp c k ps es) = false
is_boundary (elements.list marked es) = false
is_boundary (elements.boundary k f es) = true
is_boundary (elements.catcher k f es) = false
is_boundary (elements.provider c k x es) = false

-- the element is that of an error boundary
abbrev pub is_catcher : Element → Bool
is_catcher elements.null = false
is_catcher (elements.text t) = false
is_catcher (elements.host n k attrs es) = false
is_catcher (elements.comp c k ps es) = false
is_catcher (elements.list marked es) = false
is_catcher (elements.boundary k f es) = false
is_catcher (elements.catcher k f es) = true
is_catcher (elements.provider c k x es) = false

-- the fiber is that of an open node, whose list, in these contexts, is among its children; o is the current fiber that it was made for; of a boundary that tries its children, if that one is visible, it stands where the same values are given, but for contexts that have moved
pub data IsOpenAs (current : Shape Fiber) (moved : List ℕ) (ws : List (ℕ × ℤ)) (v : Fiber) (o : Option ℕ) (cs : Contexts) : Open → Type 0 where
  opens : {e : Element} {m : Mark} → v.element ≡ e → v.stage ≡ begun m → is_hidden m ≡ false → IsOpenAs current moved ws v o cs (around e m)
  tries : {e : Element} {old : Option Node} {c : Origin} → v.element ≡ e → v.stage ≡ stage.trying c → is_boundary e ≡ true → IsOld current o old
      → (c.visible ≡ true → StandsIf current moved ws o) → IsOpenAs current moved ws v o cs (trying e old (part cs (fallback_in e ∷ []) (fallback_if old)))
  falls : {e : Element} {old : Option Node} {a : Awaits} → v.element ≡ e → v.stage ≡ begun (of_boundary (Hidden a)) → has_node (children_if old) ≡ false
      → IsOpenAs current moved ws v o cs (falling e old a)
  guards : {e : Element} → v.element ≡ e → v.stage ≡ stage.guarding → is_catcher e ≡ true
      → IsOpenAs current moved ws v o cs (guarding e (part cs (fallback_in e ∷ []) none))

-- the fibers are those of a boundary that keeps its primary content, and of its fallback, with the element of the boundary, whose list is among the children of the latter
pub record IsKeptAs (v w : Fiber) (kept : Shape Fiber) (e : Element) (old : Option Node) (a : Awaits) : Type 0 where
  pub of : IsOf v v.place e (of_boundary (Hidden a))
  pub element : w.element ≡ e
  pub stage : w.stage ≡ stage.fallback a
  pub keeps : has_node (children_if old) ≡ true
  pub are : AreFor 0 (children_if old) kept

-- What surrounds a place reads as these open nodes, innermost first.
mutual
  -- around the place, which is this one of its list and has these later siblings
  pub data IsAround (current : Shape Fiber) : Around Fiber → (place : ℕ) → (rs : Draft Fiber) → List Frame → Type 0 where
    at_root : IsAround current top 0 (taken shapes.none) []
    inside : {k : Around Fiber} {n q : ℕ} {rs : Draft Fiber} {f : Frame} {fs : List Frame}
        → AreDone current k n f.done → AreNext current (moved_along current k) (given_along (f ∷ fs)) (suc n) f.rest rs → IsListOf current k q f.node f.contexts fs → IsAround current k n rs (f ∷ fs)

  -- the list that is surrounded so is that of an open node, in these contexts, and is among the children of q
  pub data IsListOf (current : Shape Fiber) : Around Fiber → (q : ℕ) → Open → Contexts → List Frame → Type 0 where
    of_node : {k k₁ : Around Fiber} {q : ℕ} {v : Fiber} {o : Option ℕ} {rest : Draft Fiber} {x : Open} {cs : Contexts} {fs : List Frame}
        → above_list k ≡ below q v o rest k₁ → IsOpenAs current (moved_along current k₁) (given_along fs) v o cs x → IsOfNode current o → IsAround current k₁ v.place rest fs → IsListOf current k q x cs fs
    of_fallback : {k k₁ : Around Fiber} {q b : ℕ} {v w : Fiber} {o p : Option ℕ} {kept : Shape Fiber} {rest : Draft Fiber} {cs : Contexts} {fs : List Frame}
        {e : Element} {old : Option Node} {a : Awaits}
        → above_list k ≡ below q w p rest (after b v o (taken kept) k₁) → IsKeptAs v w kept e old a → IsOfNode current o → IsOldBehind current o p → IsAround current k₁ v.place rest fs
        → IsListOf current k q (falling e old a) cs fs
