-- Where a render in progress stands, read from the two trees of fibers, the fiber that it has come to, and the stack of contexts.
use Rattle.std.specs.Prelude.{◌≡◌, ℕ, ◌≤◌, ℤ, Bool, ◌&&◌, List, [], ◌∷◌, map, Option, Some, None}
use Rattle.rx_ctx.specs.Contexts as contexts
use Rattle.rx_ctx.specs.Contexts.{Stack, moved_at, none_moved, values_at}
use Rattle.rx_elem.specs.Elements.{Element}
use Rattle.rx_elem.specs.Spots.{node_count}
use Rattle.rx_elem.specs.Trees.{Node}
use Rattle.rx_lists.specs.Shapes.{Shape}
use Rattle.rx_lists.specs.Shapes as shapes
use Rattle.rx_links.specs.Drafts.{Draft, taken, made, made_size, Trees, grafted}
use Rattle.rx_links.specs.Places.{Around, placed}
use Rattle.rx_meaning.specs.Fresh.{Contexts}
use Rattle.rx_meaning.specs.Fresh as fresh
use Rattle.rx_meaning.specs.Cursor.{Open, Frame, Cursor, at_place, at_end, ended}
use Rattle.rx_fiber.specs.Fibers.{Fiber, Stage, is_visible}
use Rattle.rx_fiber.specs.Reading.{IsOld, IsTreeOf}
use Rattle.rx_fiber.specs.Surround.{IsWaiting, AreDone, given_by, given_along, moved_along, moves_along, IsAround, IsListOf}

-- the stack has what the open nodes give: a provider is on it, and each node's list has the values at it
pub data IsStack : Stack → List (Open × Contexts) → Type 0 where
  bottom : {st : Stack} → st.given ≡ [] → IsStack st []
  same : {st : Stack} {o : Open} {cs : Contexts} {xs : List (Open × Contexts)} → given_by o ≡ None → values_at st ≡ cs → IsStack st xs → IsStack st ((o, cs) ∷ xs)
  gives : {st : Stack} {o : Open} {cs : Contexts} {xs : List (Open × Contexts)} {c : ℕ} {x : ℤ} {b : Bool}
      → given_by o ≡ Some (c, x) → values_at (contexts.below c x b st) ≡ cs → IsStack st xs → IsStack (contexts.below c x b st) ((o, cs) ∷ xs)

-- the open nodes with the contexts of their lists
abbrev pub opened : List Frame → List (Open × Contexts)
opened fs = map (λ f. (f.node, f.contexts)) fs

-- a fiber that waits was made for a current one that is shown, if for one, and no context has another value here than there
abbrev pub is_stood : Stack → Stage → Bool
is_stood st stage = is_visible stage && none_moved (moved_at st)

-- Where a render stands, with the fiber that it has come to: one that is waiting, whose place begins next; one whose list is done, and which is completed next; none where no unit is left, and no more fibers are made than the tree has nodes.
pub data StandsAt (t : Trees Fiber) (st : Stack) : (at : Option ℕ) → Cursor → Type 0 where
  begins : {levels n p : ℕ} {v : Fiber} {o : Option ℕ} {rs : Draft Fiber} {k : Around Fiber} {fs : List Frame} {cs : Contexts} {e : Element} {old : Option Node}
      → t.draft ≡ placed k (made p v o (taken shapes.none) rs) → IsWaiting t.current (moved_along t.current k) (given_along fs) o v n e → IsOld t.current o old → IsAround t.current k n rs fs
      → values_at st ≡ cs → IsStack st (opened fs) → st.moves ≡ moves_along t.current k → StandsAt t st (Some p) (at_place levels fs cs e old)
  completes : {levels n q : ℕ} {k : Around Fiber} {fs : List Frame} {cs : Contexts} {x : Open} {done : List (Option Node)}
      → t.draft ≡ placed k (taken shapes.none) → AreDone t.current k n done → IsListOf t.current k q x cs fs
      → IsStack st ((x, cs) ∷ opened fs) → st.moves ≡ moves_along t.current k → StandsAt t st (Some q) (at_end levels fs x done)
  over : {x : Node} → IsTreeOf (Some x) (grafted t.draft) → made_size t.draft ≤ node_count (Some x) → st.given ≡ [] → StandsAt t st None (ended (fresh.made x))
