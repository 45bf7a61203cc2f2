-- A node is completed: its list is done, and the render arrives with it.
use Rattle.std.specs.Prelude.{◌≡◌, ℕ, ℤ, suc, ◌+◌, ◌≤◌, Bool, true, false, List, [], Option, Some, length}
use Rattle.std.proofs.Common.{arith, refl, sym, ap, ◌∙◌, subst}
use Rattle.std.proofs.lemmas.List.{append-nil}
use Rattle.rx_ctx.specs.Contexts.{Stack, moves_by}
use Rattle.rx_base.specs.Awaits.{Awaits}
use Rattle.rx_catch.specs.declared.state.CatchState.TheVariants.{Fine}
use Rattle.rx_susp.specs.declared.boundary.BoundaryState.TheVariants.{Shown, Hidden}
use Rattle.rx_elem.specs.Elements.{Element}
use Rattle.rx_elem.specs.Spots.{at_root, spots_in, node_count}
use Rattle.rx_elem.specs.Trees.{Node, Mark, Forest, none, forest, node_over, of_boundary, of_catcher, is_caught, is_hidden, children_if}
use Rattle.rx_lists.specs.Shapes.{Shape, fiber}
use Rattle.rx_lists.specs.Shapes as shapes
use Rattle.rx_links.specs.Drafts.{Draft, taken, made, made_size, Trees, grafted, IsMadeList}
use Rattle.rx_links.specs.Places.{Around, top, below, after, placed, up_of}
use Rattle.rx_meaning.specs.Fresh.{Contexts}
use Rattle.rx_meaning.specs.Cursor.{Open, trying, falling, guarding, Frame, at_end, arrive, finished}
use Rattle.rx_meaning.specs.Cursor as cursor
use Rattle.rx_fiber.specs.Fibers.{Fiber, completed, completed_stage}
use Rattle.rx_fiber.specs.declared.subtree.Subtree.{Subtree}
use Rattle.rx_fiber.specs.Reading.{has_node, IsOf, AreFor, IsFor, whole, alone, beside}
use Rattle.rx_fiber.specs.Reading as reading
use Rattle.rx_fiber.specs.Surround.{IsOfNode, IsOldBehind, AreDone, IsOpenAs, opens, tries, falls, guards, IsAround, of_node, of_fallback, behind_earlier, made_earlier, above_list, open_element, given_along, moved_along, moves_along}
use Rattle.rx_fiber.specs.Stood.{gave, given_in}
use Rattle.rx_fiber.specs.Standing.{IsStack, opened, StandsAt, completes}
use Rattle.rx_fiber.proofs.Few.{node_parts, some_there}
use Rattle.rx_fiber.proofs.Arriving.{moves_above, one_done, two_done, next_at, arrives}

-- a list in progress with the earlier siblings of its place
abbrev pub whole_list : Around Fiber → Draft Fiber → Draft Fiber
whole_list top d = d
whole_list (below id v o rs k) d = d
whole_list (after id v o ks k) d = whole_list k (made id v o ks d)

pub placed_list : (k : Around Fiber) (d : Draft Fiber) → placed k d ≡ placed (above_list k) (whole_list k d)
placed_list top d = refl
placed_list (below id v o rs k) d = refl
placed_list (after id v o ks k) d = placed_list k (made id v o ks d)

pub grafted_list : (k : Around Fiber) (d : Draft Fiber) → grafted (whole_list k d) ≡ behind_earlier k (grafted d)
grafted_list top d = refl
grafted_list (below id v o rs k) d = refl
grafted_list (after id v o ks k) d = grafted_list k (made id v o ks d)

-- a list that is done is that of its nodes
pub list_done : (c : Shape Fiber) (k : Around Fiber) (n : ℕ) (done : List (Option Node)) → AreDone c k n done → AreFor 0 (forest done) (grafted (whole_list k (taken shapes.none)))
list_done c k n done before =
    subst (λ s. AreFor 0 (forest done) s) (sym (grafted_list k (taken shapes.none)))
    (subst (λ l. AreFor 0 (forest l) (behind_earlier k shapes.none)) (append-nil done) (before.are [] shapes.none reading.no_more))

pub made_list : (k : Around Fiber) (d : Draft Fiber) → made_size (whole_list k d) ≡ made_earlier k + made_size d
made_list top d = omega arith
made_list (below id v o rs k) d = omega arith
made_list (after id v o ks k) d = omega (arith, made_list k (made id v o ks d))

-- and no more fibers are made for it than these have nodes
pub list_few : (c : Shape Fiber) (k : Around Fiber) (n : ℕ) (done : List (Option Node)) → AreDone c k n done → made_size (whole_list k (taken shapes.none)) ≤ length (spots_in at_root (forest done))
list_few c k n done before = omega (arith, made_list k (taken shapes.none), before.few)

-- an open node has its list when it is completed, and itself
finished_few : (x : Open) (done : List (Option Node)) → suc (length (spots_in at_root (forest done))) ≤ node_count (Some (finished x done))
finished_few (cursor.around e m) done = over_few (is_caught m) refl
  where
    over_few : (b : Bool) → is_caught m ≡ b → suc (length (spots_in at_root (forest done))) ≤ node_count (Some (node_over e m (forest done)))
    over_few true c = rw c (omega (arith, node_parts e m none (forest done)))
    over_few false c = rw c (omega (arith, node_parts e m (forest done) none))
finished_few (trying e old f) done = omega (arith, node_parts e (of_boundary Shown) (forest done) none)
finished_few (falling e old a) done = omega (arith, node_parts e (of_boundary (Hidden a)) (children_if old) (forest done))
finished_few (guarding e f) done = omega (arith, node_parts e (of_catcher Fine) (forest done) none)

-- and what it keeps
kept_few : (e : Element) (old : Option Node) (a : Awaits) (done : List (Option Node)) → has_node (children_if old) ≡ true
    → suc (suc (length (spots_in at_root (forest done)))) ≤ node_count (Some (finished (falling e old a) done))
kept_few e old a done some = omega (arith, node_parts e (of_boundary (Hidden a)) (children_if old) (forest done), some_there (children_if old) some)

-- a list of made fibers is one with those before it too
pub whole_made : (k : Around Fiber) (d : Draft Fiber) → IsMadeList d → IsMadeList (whole_list k d)
whole_made top d m = m
whole_made (below id v o rs k) d m = m
whole_made (after id v o ks k) d m = whole_made k (made id v o ks d) m

-- a list that is done stands for a node over it, of an error boundary that has caught a value as its fallback
over_list : (n : ℕ) (e : Element) (m : Mark) (v : Fiber) (q : ℕ) (ns : Forest) (ks rest : Shape Fiber) → IsOf v n e m → is_hidden m ≡ false → AreFor 0 ns ks → (b : Bool) → is_caught m ≡ b
    → IsFor n (node_over e m ns) (fiber q v ks rest) rest
over_list n e m v q ns ks rest is shown a true c = rw c (alone is (rw (shown, c) refl) refl a)
over_list n e m v q ns ks rest is shown a false c = rw c (whole is (rw (shown, c) refl) a)

-- a list that is done stands for the node of its fiber, once that one is completed
pub node_finished : (under : Subtree) (c : Shape Fiber) (ms : List ℕ) (ws : List (ℕ × ℤ)) (v : Fiber) (o : Option ℕ) (cs : Contexts) (x : Open) (q : ℕ) (done : List (Option Node)) (ks rest : Shape Fiber)
    → IsOpenAs c ms ws v o cs x → AreFor 0 (forest done) ks → IsFor v.place (finished x done) (fiber q (completed under v) ks rest) rest
node_finished under c ms ws v o cs _ q done ks rest (opens {e = g} {m = mark} e m shown) a =
    over_list v.place g mark (completed under v) q (forest done) ks rest (record { at = refl; element = e; stage = ap completed_stage m }) shown a (is_caught mark) refl
node_finished under c ms ws v o cs x q done ks rest (tries e s b old stands) a = whole (record { at = refl; element = e; stage = ap completed_stage s }) refl a
node_finished under c ms ws v o cs x q done ks rest (falls e m empty) a = alone (record { at = refl; element = e; stage = ap completed_stage m }) refl empty a
node_finished under c ms ws v o cs x q done ks rest (guards e s is) a = whole (record { at = refl; element = e; stage = ap completed_stage s }) refl a

pub opens_element : (c : Shape Fiber) (ms : List ℕ) (ws : List (ℕ × ℤ)) (v : Fiber) (o : Option ℕ) (cs : Contexts) (x : Open) → IsOpenAs c ms ws v o cs x → v.element ≡ open_element x
opens_element c ms ws v o cs x (opens e m shown) = e
opens_element c ms ws v o cs x (tries e s is old stands) = e
opens_element c ms ws v o cs x (falls e m empty) = e
opens_element c ms ws v o cs x (guards e s is) = e

-- What the fiber that is completed next is to the two trees: once its value is that of a node that is done, and what its element gave is taken from the stack, the render arrives with its node.
pub record Completes (t : Trees Fiber) (st : Stack) (q : ℕ) (fs : List Frame) (x : Open) (done : List (Option Node)) : Type 0 where
  -- what surrounds the fiber, and what surrounds the first fiber of its node: another one if it is that of a fallback beside kept content
  pub around : Around Fiber
  pub first : Around Fiber
  pub place : ℕ
  pub value : Fiber
  pub old : Option ℕ
  pub kids : Draft Fiber
  pub rest : Draft Fiber
  pub here : t.draft ≡ placed around (made q value old kids rest)
  pub surrounds : IsAround t.current first place rest fs
  pub parent : up_of around ≡ up_of first
  pub element : value.element ≡ open_element x
  pub all_made : IsMadeList kids
  pub moves : st.moves ≡ moves_by (given_in value.element) (gave t.current old) (moves_along t.current around)
  pub arrives : (under : Subtree) (new : Trees Fiber) (after : Stack) (levels : ℕ) → new.current ≡ t.current → new.draft ≡ placed around (made q (completed under value) old kids rest)
      → IsStack after (opened fs) → after.moves ≡ moves_along t.current around → StandsAt new after (next_at around rest) (arrive levels fs (Some (finished x done)))

pub completing : (t : Trees Fiber) (st : Stack) (q levels : ℕ) (fs : List Frame) (x : Open) (done : List (Option Node))
    → StandsAt t st (Some q) (at_end levels fs x done) → Completes t st q fs x done
completing t st q levels fs x done (completes {n = n} {k = k} here before (of_node {k₁ = k₁} {v = v} {o = o} {rest = rest} {cs = cs} above is own around) stack moves) =
    let ks : Draft Fiber = whole_list k (taken shapes.none) in
    record {
      around = k₁;
      first = k₁;
      place = v.place;
      surrounds = around;
      parent = refl;
      value = v;
      old = o;
      kids = ks;
      rest = rest;
      here = here ∙ (placed_list k (taken shapes.none) ∙ ap (λ a. placed a ks) above);
      element = opens_element t.current (moved_along t.current k₁) (given_along fs) v o cs x is;
      all_made = whole_made k (taken shapes.none) refl;
      moves = moves ∙ (moves_above t.current k ∙ ap (moves_along t.current) above);
      arrives = λ under new outer levels same there stack still.
          arrives new outer k₁ (after q (completed under v) o ks k₁) v.place levels rest fs (finished x done) there refl
          (λ earlier are. one_done new.current k₁ v.place earlier (finished x done) q (completed under v) o ks are (subst (λ c. IsOfNode c o) (sym same) own)
          (λ more. node_finished under t.current (moved_along t.current k₁) (given_along fs) v o cs x q done (grafted ks) more is (list_done t.current k n done before))
          (omega (arith, list_few t.current k n done before, finished_few x done)))
          (subst (λ c. IsAround c k₁ v.place rest fs) (sym same) around) stack (still ∙ ap (λ c. moves_along c k₁) (sym same));
    }
completing t st q levels fs x done (completes {n = n} {k = k} here before (of_fallback {k₁ = k₁} {b = b} {v = v} {w = w} {o = o} {p = p} {kept = kept} {rest = rest} {e = e} {old = old} {a = a} above is own behind around) stack moves) =
    let ks : Draft Fiber = whole_list k (taken shapes.none) in
    record {
      around = after b v o (taken kept) k₁;
      first = k₁;
      place = v.place;
      surrounds = around;
      parent = refl;
      value = w;
      old = p;
      kids = ks;
      rest = rest;
      here = here ∙ (placed_list k (taken shapes.none) ∙ ap (λ a. placed a ks) above);
      element = is.element;
      all_made = whole_made k (taken shapes.none) refl;
      moves = moves ∙ (moves_above t.current k ∙ ap (moves_along t.current) above);
      arrives = λ under new outer levels same there stack still.
          arrives new outer k₁ (after q (completed under w) p ks (after b v o (taken kept) k₁)) v.place levels rest fs (finished x done) there refl
          (λ earlier are. two_done new.current k₁ v.place earlier (finished x done) b q v (completed under w) o p (taken kept) ks are (subst (λ c. IsOfNode c o) (sym same) own) (subst (λ c. IsOldBehind c o p) (sym same) behind)
          (λ more. beside is.of refl is.keeps is.are (ap completed_stage is.stage) (list_done t.current k n done before))
          (omega (arith, list_few t.current k n done before, kept_few e old a done is.keeps)))
          (subst (λ c. IsAround c k₁ v.place rest fs) (sym same) around) stack (still ∙ ap (λ c. moves_along c k₁) (sym same));
    }
