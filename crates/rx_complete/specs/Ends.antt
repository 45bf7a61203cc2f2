-- What is completed next, and where the render comes from there.
use Rattle.std.specs.Prelude.{◌≡◌, ℕ, Bool, List, Option, Some, None, IsSome, if◌then◌else◌}
use Rattle.rx_ctx.specs.Contexts.{Stack}
use Rattle.rx_elem.specs.Elements.{Element}
use Rattle.rx_elem.specs.Trees.{Node}
use Rattle.rx_links.specs.Drafts.{Draft, made, Trees, entry, IsMadeList}
use Rattle.rx_links.specs.Places.{Around, top, below, after, placed}
use Rattle.rx_links.specs.Readers.{made_rest_of, made_parent_of}
use Rattle.rx_meaning.specs.Fresh.{Contexts, Place}
use Rattle.rx_meaning.specs.Cursor.{Open, Frame, Cursor, at_place, at_end, ended}
use Rattle.rx_fiber.specs.Fibers.{Fiber, Stage}
use Rattle.rx_fiber.specs.Standing.{StandsAt}
use Rattle.rx_fiber.specs.Unwound.{IsWithin, is_guarding, is_trying}
use Rattle.rx_complete.specs.declared.completing.Next.{Next}
use Rattle.rx_complete.specs.declared.completing.Next.TheVariants.{Sibling, Parent, Done}

-- the fiber's list is done, and its node is completed next
pub data IsAtEnd (t : Trees Fiber) (st : Stack) (q : ℕ) : Type 0 where
  ends : {levels : ℕ} {fs : List Frame} {x : Open} {done : List (Option Node)} → StandsAt t st (Some q) (at_end levels fs x done) → IsAtEnd t st q

-- the children of a made fiber are all made
pub record HasMadeList (t : Trees Fiber) (q : ℕ) : Type 0 where
  pub around : Around Fiber
  pub value : Fiber
  pub old : Option ℕ
  pub kids : Draft Fiber
  pub rest : Draft Fiber
  pub here : t.draft ≡ placed around (made q value old kids rest)
  pub all_made : IsMadeList kids

-- the fiber lies in the list of an open node, or is the root
pub data IsOpenBelow (t : Trees Fiber) (st : Stack) (p : ℕ) : Type 0 where
  lies : {fs : List Frame} → IsWithin t st p fs → IsOpenBelow t st p

-- the fiber that an answer names
abbrev pub fiber_in : Next → Option ℕ
fiber_in (Sibling id) = Some id
fiber_in (Parent id) = Some id
fiber_in Done = None

-- the next sibling; if there is none, the parent; and if there is none, nothing
abbrev pub next_by : (sibling parent : Option ℕ) → Next
next_by (Some id) p = Sibling id
next_by None (Some id) = Parent id
next_by None None = Done

-- what comes after a fiber of the tree in progress
abbrev pub next_after : Draft Fiber → ℕ → Next
next_after d i = next_by (entry (made_rest_of d i)) (made_parent_of d i)

-- a sibling begins next, a parent is completed next, and no unit is left after the root
pub data LeadsTo : Next → Cursor → Type 0 where
  to_sibling : {id levels : ℕ} {fs : List Frame} {cs : Contexts} {e : Element} {old : Option Node} → LeadsTo (Sibling id) (at_place levels fs cs e old)
  to_parent : {id levels : ℕ} {fs : List Frame} {x : Open} {done : List (Option Node)} → LeadsTo (Parent id) (at_end levels fs x done)
  to_none : {p : Place} → LeadsTo Done (ended p)

-- a made fiber with what surrounds it
pub record Outer : Type 0 where
  pub around : Around Fiber
  pub id : ℕ
  pub value : Fiber
  pub old : Option ℕ
  pub rest : Draft Fiber

-- the nearest fiber outside of a place whose stage passes a test
abbrev pub nearest_where : (Stage → Bool) → Around Fiber → Option Outer
nearest_where stops top = None
nearest_where stops (below id v o rs k) = if stops v.stage then Some (record { around = k; id = id; value = v; old = o; rest = rs }) else nearest_where stops k
nearest_where stops (after id v o ks k) = nearest_where stops k

-- the nearest one that tries its children
abbrev pub nearest : Around Fiber → Option Outer
nearest k = nearest_where is_trying k

-- the nearest one of an error boundary whose children are tried
abbrev pub nearest_catch : Around Fiber → Option Outer
nearest_catch k = nearest_where is_guarding k

-- there is one outside of a made fiber
abbrev pub IsGuardedAt : Trees Fiber → (p : ℕ) → Type 0
IsGuardedAt t p = (k : Around Fiber) (v : Fiber) (o : Option ℕ) (ks rs : Draft Fiber) → t.draft ≡ placed k (made p v o ks rs) → IsSome (nearest_catch k)
