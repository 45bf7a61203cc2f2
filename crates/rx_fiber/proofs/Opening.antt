-- A place begins: its fiber is begun, and the render comes to the first of its children, or to its end.
use Rattle.std.specs.Prelude.{◌≡◌, ℕ, true, false, List, [], ◌∷◌, Option, Some}
use Rattle.std.proofs.Common.{refl}
use Rattle.rx_base.specs.Awaits.{Awaits}
use Rattle.rx_susp.specs.declared.boundary.BoundaryState.TheVariants.{Hidden}
use Rattle.rx_ctx.specs.Contexts.{Stack}
use Rattle.rx_elem.specs.Elements.{Element}
use Rattle.rx_elem.specs.Trees.{Node, Mark, none, is_hidden, of_boundary, children_if, fallback_if}
use Rattle.rx_lists.specs.Shapes.{Shape}
use Rattle.rx_links.specs.Drafts.{Draft, taken, made, Trees}
use Rattle.rx_links.specs.Places.{Around, below, after, placed}
use Rattle.rx_meaning.specs.Fresh.{Contexts, Part, part}
use Rattle.rx_meaning.specs.Cursor.{Open, around, trying, falling, guarding, Frame, open_part}
use Rattle.rx_meaning.specs.Touched.{children_with_old}
use Rattle.rx_fiber.specs.Fibers.{Fiber, begun}
use Rattle.rx_fiber.specs.Fibers as stage
use Rattle.rx_fiber.specs.declared.stage.Origin.{Origin}
use Rattle.rx_fiber.specs.Reading.{has_node, IsOld}
use Rattle.rx_fiber.specs.Stood.{given_more}
use Rattle.rx_fiber.specs.Surround.{open_element, given_along, moved_along, moves_along, AreNext, IsOfNode, IsOldBehind, StandsIf, IsOpenAs, opens, tries, falls, guards, IsKeptAs, fallback_in, is_boundary, is_catcher, IsAround, of_node, of_fallback}
use Rattle.rx_fiber.specs.Standing.{IsStack, opened, StandsAt}
use Rattle.rx_fiber.proofs.Coming.{come_at, comes, none_done}
use Rattle.rx_fiber.proofs.OldLists.{old_of_node}

-- an open node comes to its list, with the fiber that is its own
opens_node : (t : Trees Fiber) (st : Stack) (k : Around Fiber) (p levels : ℕ) (v : Fiber) (o : Option ℕ) (d rs : Draft Fiber) (fs : List Frame) (x : Open) (list : Part)
    → t.draft ≡ placed k (made p v o d rs) → IsOpenAs t.current (moved_along t.current k) (given_along fs) v o list.contexts x → IsOfNode t.current o → AreNext t.current (moved_along t.current (below p v o rs k)) (given_more (open_element x) (given_along fs)) 0 (children_with_old list) d
    → IsAround t.current k v.place rs fs → IsStack st ((x, list.contexts) ∷ opened fs) → st.moves ≡ moves_along t.current (below p v o rs k) → StandsAt t st (Some (come_at d p)) (open_part levels fs x list)
opens_node t st k p levels v o d rs fs x list here is old kids surrounds stack moves =
    comes t st (below p v o rs k) 0 p levels fs x list.contexts [] (children_with_old list) d here (none_done t.current _ refl (λ s. refl) tt) kids (of_node refl is old surrounds) stack moves

-- A node with one list: its fiber is begun with its mark, and its children are made.
pub opens_one : (t : Trees Fiber) (st : Stack) (k : Around Fiber) (p levels : ℕ) (v : Fiber) (o : Option ℕ) (d rs : Draft Fiber) (fs : List Frame) (e : Element) (m : Mark) (list : Part)
    → t.draft ≡ placed k (made p v o d rs) → v.element ≡ e → v.stage ≡ begun m → is_hidden m ≡ false → IsOfNode t.current o → AreNext t.current (moved_along t.current (below p v o rs k)) (given_more e (given_along fs)) 0 (children_with_old list) d
    → IsAround t.current k v.place rs fs → IsStack st ((around e m, list.contexts) ∷ opened fs) → st.moves ≡ moves_along t.current (below p v o rs k) → StandsAt t st (Some (come_at d p)) (open_part levels fs (around e m) list)
opens_one t st k p levels v o d rs fs e m list here element mark shown old kids surrounds stack moves =
    opens_node t st k p levels v o d rs fs (around e m) list here (opens element mark shown) old kids surrounds stack moves

-- A boundary tries its children, and remembers its fallback.
pub tries_children : (t : Trees Fiber) (st : Stack) (k : Around Fiber) (p levels : ℕ) (v : Fiber) (o : Option ℕ) (d rs : Draft Fiber) (fs : List Frame) (e : Element) (old : Option Node)
    (cs : Contexts) (es : List Element) (c : Origin)
    → t.draft ≡ placed k (made p v o d rs) → v.element ≡ e → v.stage ≡ stage.trying c → is_boundary e ≡ true → IsOld t.current o old → (c.visible ≡ true → StandsIf t.current (moved_along t.current k) (given_along fs) o)
    → AreNext t.current (moved_along t.current (below p v o rs k)) (given_more e (given_along fs)) 0 (children_with_old (part cs es (children_if old))) d → IsAround t.current k v.place rs fs
    → IsStack st ((trying e old (part cs (fallback_in e ∷ []) (fallback_if old)), cs) ∷ opened fs) → st.moves ≡ moves_along t.current (below p v o rs k)
    → StandsAt t st (Some (come_at d p)) (open_part levels fs (trying e old (part cs (fallback_in e ∷ []) (fallback_if old))) (part cs es (children_if old)))
tries_children t st k p levels v o d rs fs e old cs es c here element trying_now is was stands kids surrounds stack moves =
    opens_node t st k p levels v o d rs fs (trying e old (part cs (fallback_in e ∷ []) (fallback_if old))) (part cs es (children_if old)) here (tries element trying_now is was stands)
    (old_of_node t.current o old was) kids surrounds
    stack moves

-- An error boundary tries its children, and remembers its fallback, which is rendered beside no old nodes.
pub guards_children : (t : Trees Fiber) (st : Stack) (k : Around Fiber) (p levels : ℕ) (v : Fiber) (o : Option ℕ) (d rs : Draft Fiber) (fs : List Frame) (e : Element) (old : Option Node)
    (cs : Contexts) (es : List Element)
    → t.draft ≡ placed k (made p v o d rs) → v.element ≡ e → v.stage ≡ stage.guarding → is_catcher e ≡ true → IsOfNode t.current o
    → AreNext t.current (moved_along t.current (below p v o rs k)) (given_more e (given_along fs)) 0 (children_with_old (part cs es (children_if old))) d → IsAround t.current k v.place rs fs
    → IsStack st ((guarding e (part cs (fallback_in e ∷ []) none), cs) ∷ opened fs) → st.moves ≡ moves_along t.current (below p v o rs k)
    → StandsAt t st (Some (come_at d p)) (open_part levels fs (guarding e (part cs (fallback_in e ∷ []) none)) (part cs es (children_if old)))
guards_children t st k p levels v o d rs fs e old cs es here element guarding_now is own kids surrounds stack moves =
    opens_node t st k p levels v o d rs fs (guarding e (part cs (fallback_in e ∷ []) none)) (part cs es (children_if old)) here (guards element guarding_now is) own kids surrounds stack moves

-- A boundary that keeps no node opens its fallback, whose list is its own children.
pub falls_alone : (t : Trees Fiber) (st : Stack) (k : Around Fiber) (p levels : ℕ) (v : Fiber) (o : Option ℕ) (d rs : Draft Fiber) (fs : List Frame) (e : Element) (old : Option Node) (a : Awaits)
    (list : Part)
    → t.draft ≡ placed k (made p v o d rs) → v.element ≡ e → v.stage ≡ begun (of_boundary (Hidden a)) → has_node (children_if old) ≡ false → IsOfNode t.current o
    → AreNext t.current (moved_along t.current (below p v o rs k)) (given_more e (given_along fs)) 0 (children_with_old list) d → IsAround t.current k v.place rs fs → IsStack st ((falling e old a, list.contexts) ∷ opened fs) → st.moves ≡ moves_along t.current (below p v o rs k)
    → StandsAt t st (Some (come_at d p)) (open_part levels fs (falling e old a) list)
falls_alone t st k p levels v o d rs fs e old a list here element hidden gone own kids surrounds stack moves =
    opens_node t st k p levels v o d rs fs (falling e old a) list here (falls element hidden gone) own kids surrounds stack moves

-- A boundary that keeps some opens its fallback in a fiber of its own, right behind the one that has taken over what is kept.
pub falls_beside : (t : Trees Fiber) (st : Stack) (k : Around Fiber) (p q levels : ℕ) (v w : Fiber) (o r : Option ℕ) (kept : Shape Fiber) (d rs : Draft Fiber) (fs : List Frame) (e : Element)
    (old : Option Node) (a : Awaits) (list : Part)
    → t.draft ≡ placed k (made p v o (taken kept) (made q w r d rs)) → IsKeptAs v w kept e old a → IsOfNode t.current o → IsOldBehind t.current o r → AreNext t.current (moved_along t.current (below q w r rs (after p v o (taken kept) k))) (given_more e (given_along fs)) 0 (children_with_old list) d
    → IsAround t.current k v.place rs fs → IsStack st ((falling e old a, list.contexts) ∷ opened fs) → st.moves ≡ moves_along t.current (below q w r rs (after p v o (taken kept) k)) → StandsAt t st (Some (come_at d q)) (open_part levels fs (falling e old a) list)
falls_beside t st k p q levels v w o r kept d rs fs e old a list here keeps own behind kids surrounds stack moves =
    comes t st (below q w r rs (after p v o (taken kept) k)) 0 q levels fs (falling e old a) list.contexts [] (children_with_old list) d here (none_done t.current _ refl (λ s. refl) tt) kids
    (of_fallback refl keeps own behind surrounds) stack moves
