-- A list comes to its next child that isn't null, or it is done.
use Rattle.std.specs.Prelude.{◌≡◌, ℕ, suc, cond, List, [], ◌∷◌, ◌++◌, Option, Some, None}
use Rattle.std.proofs.Common.{arith, sym, subst}
use Rattle.std.proofs.lemmas.List.{append_assoc}
use Rattle.rx_ctx.specs.Contexts.{Stack, values_at}
use Rattle.rx_elem.specs.Elements.{Element}
use Rattle.rx_elem.specs.Trees.{Node, forest}
use Rattle.rx_lists.specs.Shapes.{Shape}
use Rattle.rx_links.specs.Drafts.{Draft, taken, made, Trees}
use Rattle.rx_links.specs.Places.{Around, placed}
use Rattle.rx_meaning.specs.Fresh.{Contexts}
use Rattle.rx_meaning.specs.Cursor.{Open, Frame, come_to, at_place}
use Rattle.rx_fiber.specs.Fibers.{Fiber}
use Rattle.rx_fiber.specs.Reading.{AreFor, gap}
use Rattle.rx_fiber.specs.Stood.{given_more}
use Rattle.rx_fiber.specs.Surround.{open_element, given_along, moved_along, moves_along, AreOldBehind, AreDone, AreNext, IsAround, inside, IsListOf}
use Rattle.rx_fiber.specs.Surround as around
use Rattle.rx_fiber.specs.Standing.{IsStack, same, gives, opened, StandsAt, begins, completes}
use Rattle.rx_fiber.proofs.Few.{none_more}

-- the fiber that the render has come to: the first that is still to begin, or the one whose list it is
abbrev pub come_at : Draft Fiber → ℕ → ℕ
come_at (taken s) q = q
come_at (made id v o ks rs) q = id

pub gap_done : (c : Shape Fiber) (k : Around Fiber) (n : ℕ) (done : List (Option Node)) → AreDone c k n done → AreDone c k (suc n) (done ++ None ∷ [])
gap_done c k n done h = record {
  are = λ xs s a. subst (λ l. AreFor 0 (forest l) (around.behind_earlier k s)) (sym (append_assoc done (None ∷ []) xs)) (h.are (None ∷ xs) s (gap a));
  few = omega (arith, h.few, none_more done);
  olds = h.olds;
}

-- no place of a list is done at its start
pub none_done : (c : Shape Fiber) (k : Around Fiber) → around.made_earlier k ≡ 0 → ((s : Shape Fiber) → around.behind_earlier k s ≡ s) → AreOldBehind c k → AreDone c k 0 []
none_done c k few first olds = record {
  are = λ xs s a. subst (λ l. AreFor 0 (forest xs) l) (sym (first s)) a;
  few = omega (arith, few);
  olds = olds;
}

pub top_values : {st : Stack} {x : Open} {cs : Contexts} {xs : List (Open × Contexts)} → IsStack st ((x, cs) ∷ xs) → values_at st ≡ cs
top_values (same g v rest) = v
top_values (gives g v rest) = v

pub comes : (t : Trees Fiber) (st : Stack) (k : Around Fiber) (n q levels : ℕ) (fs : List Frame) (x : Open) (cs : Contexts) (done : List (Option Node))
    (xs : List (Element × Option Node)) (d : Draft Fiber)
    → t.draft ≡ placed k d → AreDone t.current k n done → AreNext t.current (moved_along t.current k) (given_more (open_element x) (given_along fs)) n xs d → IsListOf t.current k q x cs fs → IsStack st ((x, cs) ∷ opened fs) → st.moves ≡ moves_along t.current k
    → StandsAt t st (Some (come_at d q)) (come_to levels fs x cs done xs)
comes t st k n q levels fs x cs done [] _ here before around.no_more list stack moves = completes here before list stack moves
comes t st k n q levels fs x cs done (y ∷ ys) d here before (around.gap null more) list stack moves =
    subst (λ b. StandsAt t st (Some (come_at d q)) (cond b (come_to levels fs x cs (done ++ None ∷ []) ys) (at_place levels ((record { node = x; contexts = cs; done = done; rest = ys }) ∷ fs) cs y.0 y.1)))
    (sym null) (comes t st k (suc n) q levels fs x cs (done ++ None ∷ []) ys d here (gap_done t.current k n done before) more list stack moves)
comes t st k n q levels fs x cs done (y ∷ ys) (made id _ _ _ _) here before (around.next there waits old more) list stack moves =
    subst (λ b. StandsAt t st (Some id) (cond b (come_to levels fs x cs (done ++ None ∷ []) ys) (at_place levels ((record { node = x; contexts = cs; done = done; rest = ys }) ∷ fs) cs y.0 y.1)))
    (sym there) (begins here waits old (inside before more list) (top_values stack) stack moves)
