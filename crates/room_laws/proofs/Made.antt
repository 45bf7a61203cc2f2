-- How many fibers are made for a render in progress.
use Rattle.std.specs.Prelude.{◌≡◌, ℕ, ℤ, suc, ◌+◌, ◌*◌, ◌≤◌, List, [], ◌∷◌, Option, refl}
use Rattle.std.proofs.Common.{arith, ap}
use Rattle.rx_ast.specs.Syntax.{Program}
use Rattle.rx_rules.specs.Bounds.{node_bound}
use Rattle.rx_rules.specs.Versions.{node_limit}
use Rattle.rx_rules.specs.Keys.{KeysApart}
use Rattle.rx_ctx.specs.Contexts.{Stack}
use Rattle.rx_elem.specs.Elements.{Element}
use Rattle.rx_elem.specs.Trees.{Node, children_if}
use Rattle.rx_lists.specs.Shapes.{Shape, size}
use Rattle.rx_lists.specs.Shapes as shapes
use Rattle.rx_links.specs.Drafts.{Draft, taken, made, made_size, Trees}
use Rattle.rx_links.specs.Places.{Around, top, below, after, placed}
use Rattle.rx_meaning.specs.Fresh.{Contexts, IsTree}
use Rattle.rx_meaning.specs.Cursor.{Open, around, trying, falling, guarding, Frame, Cursor, StandsAtNode}
use Rattle.render_laws.proofs.Bounded.{tree_within}
use Rattle.rx_fiber.specs.Fibers.{Fiber}
use Rattle.rx_fiber.specs.Reading.{IsTreeOf}
use Rattle.rx_fiber.specs.Surround.{AreNext, made_earlier, above_list, IsAround, IsListOf, of_node, of_fallback}
use Rattle.rx_fiber.specs.Surround as surround
use Rattle.rx_fiber.specs.Standing.{StandsAt, begins, completes, over}
use Rattle.rx_fiber.proofs.Few.{some_there}
use Rattle.room_laws.specs.Reached.{IsReached}
use Rattle.room_laws.specs.Places.{to_begin, open_places, places_around, places_in}
use Rattle.room_laws.proofs.Law.{reached_within}
use Rattle.room_laws.proofs.Sizes.{few}

-- how many fibers are made around a place
abbrev made_around : Around Fiber → ℕ
made_around top = 0
made_around (below id v o rs k) = suc (made_size rs) + made_around k
made_around (after id v o ks k) = suc (made_size ks) + made_around k

made_placed : (k : Around Fiber) (d : Draft Fiber) → made_size (placed k d) ≡ made_size d + made_around k
made_placed top d = omega arith
made_placed (below id v o rs k) d = omega (arith, made_placed k (made id v o d rs))
made_placed (after id v o ks k) d = omega (arith, made_placed k (made id v o ks d))

made_above : (k : Around Fiber) → made_around k ≡ made_earlier k + made_around (above_list k)
made_above top = omega arith
made_above (below id v o rs k) = omega arith
made_above (after id v o ks k) = omega (arith, made_above k)

-- one fiber is made for each element that is still to begin
next_made : {c : Shape Fiber} {ms : List ℕ} {ws : List (ℕ × ℤ)} {n : ℕ} {xs : List (Element × Option Node)} {d : Draft Fiber} → AreNext c ms ws n xs d → made_size d ≡ to_begin xs
next_made surround.no_more = omega arith
next_made (surround.gap {x = x} {xs = xs} null more) =
    let one : to_begin (x ∷ []) ≡ 0 = rw null refl in
    omega (arith, one, next_made more)
next_made (surround.next {x = x} {xs = xs} there waits old more) =
    let one : to_begin (x ∷ []) ≡ 1 = rw there refl in
    omega (arith, one, next_made more)

open_there : (x : Open) → 1 ≤ open_places x
open_there (around e m) = omega arith
open_there (trying e old f) = omega arith
open_there (falling e old a) = omega arith
open_there (guarding e f) = omega arith

mutual
  around_made : {c : Shape Fiber} {k : Around Fiber} {n : ℕ} {rs : Draft Fiber} {fs : List Frame} → IsAround c k n rs fs → made_around k + made_size rs ≤ places_around fs
  around_made surround.at_root = omega arith
  around_made (surround.inside {k = k} done behind list) =
      omega (arith, made_above k, done.few, next_made behind, list_made list)

  list_made : {c : Shape Fiber} {k : Around Fiber} {q : ℕ} {x : Open} {cs : Contexts} {fs : List Frame} → IsListOf c k q x cs fs
      → made_around (above_list k) ≤ open_places x + places_around fs
  list_made (of_node {x = x} above is own within) = omega (arith, ap made_around above, open_there x, around_made within)
  list_made (of_fallback {old = old} above is own behind within) =
      omega (arith, ap made_around above, some_there (children_if old) is.keeps, around_made within)

-- no more fibers are made than a render in progress has places
pub stands_made : (t : Trees Fiber) (st : Stack) (at : Option ℕ) (c : Cursor) → StandsAtNode c → StandsAt t st at c → made_size t.draft ≤ places_in c
stands_made t st _ _ there (begins {p = p} {v = v} {o = o} {rs = rs} {k = k} {e = e} {old = was} here waits old within values stack moves) =
    let one : to_begin ((e, was) ∷ []) ≡ 1 = rw there refl in
    omega (arith, one, ap made_size here, made_placed k (made p v o (taken shapes.none) rs), around_made within)
stands_made t st _ _ there (completes {k = k} here done list stack moves) =
    omega (arith, ap made_size here, made_placed k (taken shapes.none), made_above k, done.few, list_made list)
stands_made t st _ _ there (over tree less empty) = omega (arith, less)

-- so both trees have at most three fibers for each node of the bound
pub both_within : (p : Program) (tree : Option Node) (t : Trees Fiber) (st : Stack) (at : Option ℕ) (c : Cursor) → KeysApart p → node_bound p ≤ node_limit p → IsTree p tree
    → IsTreeOf tree t.current → IsReached p tree c → StandsAtNode c → StandsAt t st at c → size t.current + made_size t.draft ≤ 3 * node_bound p
both_within p tree t st at c apart small is current r there stands =
    omega (arith, few tree t.current current, tree_within p apart small tree is, stands_made t st at c there stands, reached_within p tree c apart small is r)
