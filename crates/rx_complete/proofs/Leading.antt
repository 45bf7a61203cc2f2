-- Where a render comes from a node that is done, by the fibers around it.
use Rattle.std.specs.Prelude.{◌≡◌, ℕ, ℤ, suc, cond, List, [], ◌∷◌, ◌++◌, Option, Some, None}
use Rattle.std.proofs.Common.{refl, sym, subst}
use Rattle.rx_elem.specs.Elements.{Element}
use Rattle.rx_elem.specs.Trees.{Node}
use Rattle.rx_lists.specs.Shapes.{Shape}
use Rattle.rx_links.specs.Drafts.{Draft, made, Trees, entry, or_else}
use Rattle.rx_links.specs.Places.{Around, up_of, IsAt}
use Rattle.rx_meaning.specs.Fresh.{Contexts}
use Rattle.rx_meaning.specs.Cursor.{Open, Frame, come_to, arrive, at_place, at_end}
use Rattle.rx_fiber.specs.Fibers.{Fiber}
use Rattle.rx_fiber.specs.Surround.{given_along, moved_along, AreNext, IsAround, at_root, inside}
use Rattle.rx_fiber.specs.Surround as surround
use Rattle.rx_fiber.proofs.Arriving.{list_parent}
use Rattle.rx_complete.specs.Ends.{fiber_in, next_by, next_after, LeadsTo, to_sibling, to_parent, to_none}

pub fiber_next : (a b : Option ℕ) → fiber_in (next_by a b) ≡ or_else a b
fiber_next (Some id) b = refl
fiber_next None (Some id) = refl
fiber_next None None = refl

-- what comes after a fiber, by its place
pub next_is : (t : Trees Fiber) (k : Around Fiber) (p : ℕ) (v : Fiber) (o : Option ℕ) (ks rs : Draft Fiber) → IsAt t k p v o ks rs
    → next_after t.draft p ≡ next_by (entry rs) (up_of k)
next_is t k p v o ks rs at = let e = at.list in let f = at.parent in rw (e, f) refl

leads : (c : Shape Fiber) (ms : List ℕ) (ws : List (ℕ × ℤ)) (n q levels : ℕ) (fs : List Frame) (x : Open) (cs : Contexts) (done : List (Option Node)) (xs : List (Element × Option Node))
    (d : Draft Fiber) (up : Option ℕ) → up ≡ Some q → AreNext c ms ws n xs d → LeadsTo (next_by (entry d) up) (come_to levels fs x cs done xs)
leads c ms ws n q levels fs x cs done [] d up e surround.no_more = subst (λ u. LeadsTo (next_by None u) (at_end (suc levels) fs x done)) (sym e) to_parent
leads c ms ws n q levels fs x cs done (y ∷ ys) d up e (surround.gap null more) =
    subst (λ b. LeadsTo (next_by (entry d) up) (cond b (come_to levels fs x cs (done ++ None ∷ []) ys) (at_place levels ((record { node = x; contexts = cs; done = done; rest = ys }) ∷ fs) cs y.0 y.1)))
    (sym null) (leads c ms ws (suc n) q levels fs x cs (done ++ None ∷ []) ys d up e more)
leads c ms ws n q levels fs x cs done (y ∷ ys) (made id _ _ _ _) up e (surround.next there waits old more) =
    subst (λ b. LeadsTo (next_by (Some id) up) (cond b (come_to levels fs x cs (done ++ None ∷ []) ys) (at_place levels ((record { node = x; contexts = cs; done = done; rest = ys }) ∷ fs) cs y.0 y.1)))
    (sym there) to_sibling

-- the render comes to a sibling, to the parent or to the end
pub arrive_leads : (c : Shape Fiber) (k : Around Fiber) (n levels : ℕ) (rs : Draft Fiber) (fs : List Frame) (x : Option Node) → IsAround c k n rs fs
    → LeadsTo (next_by (entry rs) (up_of k)) (arrive levels fs x)
arrive_leads c _ _ levels _ _ x at_root = to_none
arrive_leads c k n levels rs (f ∷ fs) x (inside before behind list) =
    leads c (moved_along c k) (given_along (f ∷ fs)) (suc n) _ levels fs f.node f.contexts (f.done ++ x ∷ []) f.rest rs (up_of k) (list_parent c k _ f.node f.contexts fs list) behind
