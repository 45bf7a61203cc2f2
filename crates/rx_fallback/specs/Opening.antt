-- A boundary opens its fallback.
use Rattle.std.specs.Prelude.{◌≡◌, ℕ, ℤ, Bool, true, false, List, [], ◌∷◌, Option, Some, None, if◌then◌else◌}
use Rattle.rx_base.specs.Awaits.{Awaits}
use Rattle.rx_ctx.specs.Contexts.{Stack}
use Rattle.rx_elem.specs.Elements.{Element}
use Rattle.rx_elem.specs.Trees.{Node, of_boundary, children_if}
use Rattle.rx_susp.specs.declared.boundary.BoundaryState.TheVariants.{Hidden}
use Rattle.rx_lists.specs.Shapes.{Shape, first}
use Rattle.rx_lists.specs.Shapes as shapes
use Rattle.rx_links.specs.Drafts.{Draft, taken, made, Trees, entry, kids_under, old_of}
use Rattle.rx_links.specs.Places.{Around, placed}
use Rattle.rx_links.specs.Readers.{list_from}
use Rattle.rx_meaning.specs.Cursor.{Cursor}
use Rattle.rx_fiber.specs.declared.subtree.Subtree.{Subtree}
use Rattle.rx_fiber.specs.Fibers.{Fiber, as_cloned, as_matched, begun, fallback, joined, own_subtree}
use Rattle.rx_fiber.specs.declared.stage.Origin.{Origin}
use Rattle.rx_fiber.specs.OldLists.{begins_fallback, fallback_list, hides_in, matched, old_elements, old_fibers}
use Rattle.rx_fiber.specs.Reading.{has_node}
use Rattle.rx_fiber.specs.Surround.{fallback_in, StandsIf}
use Rattle.rx_fiber.specs.Standing.{StandsAt}
use Rattle.rx_fiber.specs.Subtrees.{IsGathered, IsGatheredOver, subtrees_of}
use Rattle.rx_fiber.specs.Unwound.{IsCaughtAt, IsLeftAt, is_trying}
use Rattle.rx_children.specs.Again.{HasOldFallback}
use Rattle.rx_children.specs.Units.{IsPlace, IsEnd}
use Rattle.rx_children.specs.Children.{AllWait, AllNew}
use Rattle.rx_fallback.specs.declared.opening.Opened.{Opened}
use Rattle.rx_fallback.specs.declared.opening.Opened.TheVariants.{First, Empty}

-- a wait has stopped at the boundary of this fiber, whose children it dropped
pub data IsLeft (t : Trees Fiber) (p : ℕ) (a : Awaits) : Type 0 where
  left : {st : Stack} {c : Cursor} → IsLeftAt t st p (taken shapes.none) a c → IsLeft t p a

-- a thrown value has stopped at the error boundary of this fiber, whose children it dropped
pub data IsCatchLeft (t : Trees Fiber) (p : ℕ) : Type 0 where
  stopped : {st : Stack} {x : ℤ} {c : Cursor} → IsCaughtAt t st p (taken shapes.none) x c → IsCatchLeft t p

-- what the boundary keeps has a node, or none
abbrev pub KeepsNode : Trees Fiber → ℕ → Awaits → Bool → Type 0
KeepsNode t p a b = (st : Stack) (c : Cursor) → (l : IsLeftAt t st p (taken shapes.none) a c) → has_node (children_if l.node) ≡ b

-- where the render comes, by the fiber whose list it is and the first of the list
abbrev pub opened_at : (first : Option ℕ) → ℕ → Opened
opened_at None q = Empty q
opened_at (Some id) q = First id

-- the render stands at the fallback, or, if it is null, at the end of its list
abbrev pub HasOpenedAs : Trees Fiber → Stack → Cursor → Opened → Type 0
HasOpenedAs t st c (First id) = StandsAt t st (Some id) c × IsPlace c
HasOpenedAs t st c (Empty id) = StandsAt t st (Some id) c × IsEnd c

-- the fiber of a fallback right behind the first of a list
abbrev pub fallback_behind : Shape Fiber → Option ℕ
fallback_behind shapes.none = None
fallback_behind (shapes.fiber id v ks rs) = if begins_fallback rs then first rs else None

-- a fiber that hides what it keeps, with this at or below that
abbrev pub hidden_over : Awaits → Subtree → Fiber → Fiber
hidden_over a under v = record v { stage = begun (of_boundary (Hidden a)); subtree = joined (own_subtree (begun (of_boundary (Hidden a)))) under }

-- what is at or below the children of the current fiber that a made one is for
abbrev pub kept_below : Trees Fiber → ℕ → Subtree
kept_below t p = subtrees_of (kids_under t.current (old_of t.draft p))

-- a fiber that had no children keeps those of the one that it was made for, and hides them
abbrev pub HasKept : (before after : Trees Fiber) → (p : ℕ) → Awaits → Type 0
HasKept t new p a =
    (k : Around Fiber) (v : Fiber) (o : Option ℕ) (rs : Draft Fiber) → t.draft ≡ placed k (made p v o (taken shapes.none) rs)
    → new.draft ≡ placed k (made p (hidden_over a (kept_below t p) v) o (taken (kids_under t.current o)) rs)

-- a fiber of a fallback stands right behind that of its boundary
pub record HasFallback (before after : Trees Fiber) (p : ℕ) (old : Option ℕ) (a : Awaits) (id : ℕ) : Type 0 where
  pub value : Fiber
  pub stage : value.stage ≡ fallback a
  pub stands : (k : Around Fiber) (v : Fiber) (o : Option ℕ) (ks rs : Draft Fiber) → before.draft ≡ placed k (made p v o ks rs)
      → (value.element ≡ v.element) × (after.draft ≡ placed k (made p v o ks (made id value old (taken shapes.none) rs)))
  pub current : after.current ≡ before.current

-- a fallback's list has these elements, which are the fallback of the boundary's element alone, and if they are visible the boundary's current fiber, if it is there, stands where these values are given, but for contexts that have moved; if none are given, it has those of the old fallback
abbrev pub IsFallbackOf : Shape Fiber → (moved : List ℕ) → List (ℕ × ℤ) → Option ℕ → Option Node → Element → (given : Option (List Element)) (visible : Bool) → Type 0
IsFallbackOf current moved ws o old e None visible = HasOldFallback current ws o old e
IsFallbackOf current moved ws o old e (Some es) visible = (es ≡ fallback_in e ∷ []) × (visible ≡ true → StandsIf current moved ws o)

-- the elements that its fibers get, beside the list of the old fallback
abbrev pub given_elements : (given : Option (List Element)) → Shape Fiber → List Element
given_elements None s = old_elements s
given_elements (Some es) s = es

-- the old fibers that they are made for
abbrev pub given_fibers : (given : Option (List Element)) → Shape Fiber → List (Option ℕ)
given_fibers None s = old_fibers s
given_fibers (Some es) s = matched s es

-- what is known of them: they are clones, or elements that may be others, of this generation; the old ones of either may be visible
abbrev pub given_as : (given : Option (List Element)) (visible : Bool) (generation : ℕ) → Origin
given_as None visible generation = as_cloned visible
given_as (Some es) visible generation = as_matched visible generation

-- A boundary's fallback has fibers that wait, and of which so much is known; if the old fallback has none, each is made for no current fiber. They stand below the boundary's own fiber, or below one right behind it, if that one keeps a list; neither tries its children, and both have its element. The boundary's fiber hides what it keeps, and has gathered it.
pub data HasFallbackKids (origin : Origin) (before after : Trees Fiber) (q : ℕ) : Opened → Type 0 where
  alone : {f : Opened} (kids : Draft Fiber) (value : Fiber → Fiber) → ((v : Fiber) → is_trying (value v).stage ≡ false) → ((v : Fiber) → (value v).element ≡ v.element) → AllWait origin kids
      → (fallback_list (list_from before.current (old_of before.draft q)) ≡ shapes.none → AllNew kids)
      → ((k : Around Fiber) (v : Fiber) (o : Option ℕ) (rs : Draft Fiber) → before.draft ≡ placed k (made q v o (taken shapes.none) rs) → after.draft ≡ placed k (made q (value v) o kids rs))
      → f ≡ opened_at (entry kids) q → HasFallbackKids origin before after q f
  beside : {f : Opened} (kids : Draft Fiber) (value : Fiber → Fiber) (kept : Option ℕ → Shape Fiber) (id : ℕ) (w : Fiber) (old : Option ℕ)
      → ((v : Fiber) → is_trying (value v).stage ≡ false) → ((v : Fiber) → hides_in (value v).stage ≡ true) → is_trying w.stage ≡ false → AllWait origin kids
      → (fallback_list (list_from before.current (old_of before.draft q)) ≡ shapes.none → AllNew kids)
      → ((k : Around Fiber) (v : Fiber) (o : Option ℕ) (rs : Draft Fiber) → before.draft ≡ placed k (made q v o (taken shapes.none) rs)
      → (w.element ≡ v.element) × (after.draft ≡ placed k (made q (value v) o (taken (kept o)) (made id w old kids rs))))
      → ((k : Around Fiber) (v : Fiber) (o : Option ℕ) (rs : Draft Fiber) → before.draft ≡ placed k (made q v o (taken shapes.none) rs) → IsGathered before.current → IsGatheredOver (value v) (kept o))
      → f ≡ opened_at (entry kids) id → HasFallbackKids origin before after q f

-- An error boundary's fallback has fibers that wait below the boundary's own, each made for no current fiber: they are elements made anew, where nothing was shown. The boundary's fiber tries no children more, and has its element still.
pub record HasCaughtKids (before after : Trees Fiber) (q : ℕ) (answer : Opened) : Type 0 where
  pub kids : Draft Fiber
  pub value : Fiber → Fiber
  pub stage : (v : Fiber) → is_trying (value v).stage ≡ false
  pub element : (v : Fiber) → (value v).element ≡ v.element
  pub all : AllWait (as_matched false 1) kids
  pub new : AllNew kids
  pub stands : (k : Around Fiber) (v : Fiber) (o : Option ℕ) (rs : Draft Fiber) → before.draft ≡ placed k (made q v o (taken shapes.none) rs) → after.draft ≡ placed k (made q (value v) o kids rs)
  pub answer_is : answer ≡ opened_at (entry kids) q
