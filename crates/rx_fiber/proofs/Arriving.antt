-- A node that is done becomes an earlier sibling, and the render comes to the next one or to the parent.
use Rattle.std.specs.Prelude.{◌≡◌, ℕ, ℤ, suc, ◌+◌, ◌≤◌, Bool, List, [], ◌∷◌, ◌++◌, Option, Some}
use Rattle.std.proofs.Common.{arith, refl, sym, ap, ◌∙◌, subst}
use Rattle.std.proofs.lemmas.List.{append_assoc}
use Rattle.rx_ctx.specs.Contexts.{Stack, moved_in}
use Rattle.rx_elem.specs.Elements.{Element}
use Rattle.rx_elem.specs.Spots.{node_count}
use Rattle.rx_elem.specs.Trees.{Node, forest}
use Rattle.rx_lists.specs.Shapes.{Shape, fiber}
use Rattle.rx_lists.specs.Shapes as shapes
use Rattle.rx_links.specs.Drafts.{Draft, taken, made, made_size, Trees, entry, or_else, grafted}
use Rattle.rx_links.specs.Places.{Around, top, below, after, placed, up_of}
use Rattle.rx_meaning.specs.Fresh.{Contexts}
use Rattle.rx_meaning.specs.Cursor.{Open, Frame, arrive}
use Rattle.rx_fiber.specs.Fibers.{Fiber}
use Rattle.rx_fiber.specs.Reading.{AreFor, IsFor, IsTreeOf, next}
use Rattle.rx_fiber.specs.Reading as reading
use Rattle.rx_fiber.specs.Surround.{given_along, moved_along, moves_along, IsOfNode, IsOldBehind, AreDone, AreNext, IsAround, at_root, inside, IsListOf, of_node, of_fallback, behind_earlier, made_earlier, above_list}
use Rattle.rx_fiber.specs.Surround as around
use Rattle.rx_fiber.specs.Standing.{IsStack, bottom, opened, StandsAt, over}
use Rattle.rx_fiber.proofs.Few.{node_more, node_there}
use Rattle.rx_fiber.proofs.Coming.{come_at, comes, none_done}

-- one node more is done if each list that goes on with its fibers is one of it
node_done : (c : Shape Fiber) (k : Around Fiber) (n : ℕ) (done : List (Option Node)) (x : Node) (fibers : Shape Fiber → Shape Fiber)
    → AreDone c k n done → ((rest : Shape Fiber) → IsFor n x (fibers rest) rest)
    → (xs : List (Option Node)) (s : Shape Fiber) → AreFor (suc n) (forest xs) s → AreFor 0 (forest ((done ++ Some x ∷ []) ++ xs)) (behind_earlier k (fibers s))
node_done c k n done x fibers before is xs s a =
    subst (λ l. AreFor 0 (forest l) (behind_earlier k (fibers s))) (sym (append_assoc done (Some x ∷ []) xs)) (before.are (Some x ∷ xs) (fibers s) (next (is s) a))

-- a node of one fiber is done, for which no more are made than it has nodes
pub one_done : (c : Shape Fiber) (k : Around Fiber) (n : ℕ) (done : List (Option Node)) (x : Node) (id : ℕ) (v : Fiber) (o : Option ℕ) (ks : Draft Fiber)
    → AreDone c k n done → IsOfNode c o → ((rest : Shape Fiber) → IsFor n x (fiber id v (grafted ks) rest) rest) → suc (made_size ks) ≤ node_count (Some x)
    → AreDone c (after id v o ks k) (suc n) (done ++ Some x ∷ [])
one_done c k n done x id v o ks before old is few = record {
  are = node_done c k n done x (λ s. fiber id v (grafted ks) s) before is;
  few = omega (arith, before.few, few, node_more done x);
  olds = (λ e. cc, before.olds);
}

-- so is a node whose fiber took its children over
pub taken_done : (c : Shape Fiber) (k : Around Fiber) (n : ℕ) (done : List (Option Node)) (x : Node) (id : ℕ) (v : Fiber) (o : Option ℕ) (kids : Shape Fiber)
    → AreDone c k n done → IsOfNode c o → ((rest : Shape Fiber) → IsFor n x (fiber id v kids rest) rest) → AreDone c (after id v o (taken kids) k) (suc n) (done ++ Some x ∷ [])
taken_done c k n done x id v o kids before old is = one_done c k n done x id v o (taken kids) before old is (omega (arith, node_there x))

-- a node of two fibers is done: a boundary that keeps its primary content, and its fallback
pub two_done : (c : Shape Fiber) (k : Around Fiber) (n : ℕ) (done : List (Option Node)) (x : Node) (id jd : ℕ) (v w : Fiber) (o p : Option ℕ) (ks ws : Draft Fiber)
    → AreDone c k n done → IsOfNode c o → IsOldBehind c o p → ((rest : Shape Fiber) → IsFor n x (fiber id v (grafted ks) (fiber jd w (grafted ws) rest)) rest)
    → suc (made_size ws) + suc (made_size ks) ≤ node_count (Some x)
    → AreDone c (after jd w p ws (after id v o ks k)) (suc n) (done ++ Some x ∷ [])
two_done c k n done x id jd v w o p ks ws before old behind is few = record {
  are = node_done c k n done x (λ s. fiber id v (grafted ks) (fiber jd w (grafted ws) s)) before is;
  few = omega (arith, before.few, few, node_more done x);
  olds = (behind, ((λ e. cc), before.olds));
}

-- so many fibers are made if the earlier siblings of a place stand alone
pub made_top : (k : Around Fiber) (d : Draft Fiber) → above_list k ≡ top → made_size (placed k d) ≡ made_earlier k + made_size d
made_top top d e = omega arith
made_top (below id v o rs k) d e = absurd (not_top e)
  where
    not_top : below id v o rs k ≡ top → ⊥
    not_top h = cc
made_top (after id v o ks k) d e = omega (arith, made_top k (made id v o ks d) e)

-- what a draft will be as a list if its earlier siblings stand alone
pub grafted_top : (k : Around Fiber) (d : Draft Fiber) → above_list k ≡ top → grafted (placed k d) ≡ behind_earlier k (grafted d)
grafted_top top d e = refl
grafted_top (below id v o rs k) d e = cc
grafted_top (after id v o ks k) d e = grafted_top k (made id v o ks d) e

-- the parent of a list is the fiber right above it
pub up_above : (k : Around Fiber) → up_of k ≡ up_of (above_list k)
up_above top = refl
up_above (below id v o rs k) = refl
up_above (after id v o ks k) = up_above k

-- what moves around a place moves around its list
pub moves_above : (c : Shape Fiber) (k : Around Fiber) → moves_along c k ≡ moves_along c (above_list k)
moves_above c top = refl
moves_above c (below id v o rs k) = refl
moves_above c (after id v o ks k) = moves_above c k

pub list_parent : (c : Shape Fiber) (k : Around Fiber) (q : ℕ) (x : Open) (cs : Contexts) (fs : List Frame) → IsListOf c k q x cs fs → up_of k ≡ Some q
list_parent c k q x cs fs (of_node above is old around) = up_above k ∙ ap up_of above
list_parent c k q x cs fs (of_fallback above is old behind around) = up_above k ∙ ap up_of above

-- a list is the same one behind more of its children
pub list_along : (c : Shape Fiber) (k j : Around Fiber) (q : ℕ) (x : Open) (cs : Contexts) (fs : List Frame) → above_list j ≡ above_list k → IsListOf c k q x cs fs → IsListOf c j q x cs fs
list_along c k j q x cs fs e (of_node above is old around) = of_node (e ∙ above) is old around
list_along c k j q x cs fs e (of_fallback above is old behind around) = of_fallback (e ∙ above) is old behind around

-- the fiber that a render comes to from a place that is done: the next sibling, else the parent, else none
abbrev pub next_at : Around Fiber → Draft Fiber → Option ℕ
next_at k rs = or_else (entry rs) (up_of k)

pub next_is : (c : Shape Fiber) (ms : List ℕ) (ws : List (ℕ × ℤ)) (k : Around Fiber) (n q : ℕ) (xs : List (Element × Option Node)) (d : Draft Fiber) → AreNext c ms ws n xs d → up_of k ≡ Some q → Some (come_at d q) ≡ next_at k d
next_is c ms ws k n q xs d around.no_more e = sym e
next_is c ms ws k n q (x ∷ xs) d (around.gap null more) e = next_is c ms ws k (suc n) q xs d more e
next_is c ms ws k n q (x ∷ xs) (made id _ _ _ _) (around.next there waits old more) e = refl

-- The render arrives: the node x of the place is done. j is what surrounds the rest of the list then.
pub arrives : (t : Trees Fiber) (st : Stack) (k j : Around Fiber) (n levels : ℕ) (rs : Draft Fiber) (fs : List Frame) (x : Node)
    → t.draft ≡ placed j rs → above_list j ≡ above_list k → ((done : List (Option Node)) → AreDone t.current k n done → AreDone t.current j (suc n) (done ++ Some x ∷ []))
    → IsAround t.current k n rs fs → IsStack st (opened fs) → st.moves ≡ moves_along t.current k → StandsAt t st (next_at k rs) (arrive levels fs (Some x))
arrives t st _ j _ levels _ _ x here same more at_root (bottom none) moves =
    let done : AreDone t.current j 1 (Some x ∷ []) = more [] (none_done t.current top refl (λ s. refl) tt) in
    over (subst (λ d. AreFor 0 (forest (Some x ∷ [])) (grafted d)) (sym here)
    (subst (λ s. AreFor 0 (forest (Some x ∷ [])) s) (sym (grafted_top j (taken shapes.none) same)) (done.are [] shapes.none reading.no_more)))
    (subst (λ d. made_size d ≤ node_count (Some x)) (sym here) (omega (arith, made_top j (taken shapes.none) same, done.few, node_more [] x)))
    none
arrives t st k j n levels rs (f ∷ fs) x here same more (inside before behind list) stack moves =
    let along : moves_along t.current k ≡ moves_along t.current j = moves_above t.current k ∙ (ap (moves_along t.current) (sym same) ∙ sym (moves_above t.current j)) in
    subst (λ at. StandsAt t st at (arrive levels (f ∷ fs) (Some x))) (next_is t.current (moved_along t.current k) (given_along (f ∷ fs)) k (suc n) _ f.rest rs behind (list_parent t.current k _ f.node f.contexts fs list))
    (comes t st j (suc n) _ levels fs f.node f.contexts (f.done ++ Some x ∷ []) f.rest rs here (more f.done before)
    (subst (λ (ms : List (ℕ × Bool)). AreNext t.current (moved_in ms) (given_along (f ∷ fs)) (suc n) f.rest rs) along behind) (list_along t.current k j _ f.node f.contexts fs same list) stack (moves ∙ along))
