-- What completing a fiber makes of the two trees and the stack.
use Rattle.std.specs.Prelude.{◌≡◌, ℕ, ℤ, Bool, List, ◌∷◌, Option, Some}
use Rattle.std.proofs.Common.{sym, ap, ◌∙◌, subst}
use Rattle.rx_ctx.specs.Contexts.{Stack, moves_by}
use Rattle.rx_elem.specs.Elements.{Element}
use Rattle.rx_elem.specs.Trees.{Node}
use Rattle.rx_links.specs.Drafts.{Draft, made, Trees, Makes, valued, entry}
use Rattle.rx_links.specs.Places.{Around, placed, up_of, IsAt}
use Rattle.rx_links.specs.Readers.{made_value_of}
use Rattle.rx_meaning.specs.Fresh.{Sight, Contexts}
use Rattle.rx_meaning.specs.Cursor.{Open, Frame, at_end, arrive, finished, unit}
use Rattle.rx_fiber.specs.Fibers.{Fiber, completed}
use Rattle.rx_fiber.specs.declared.subtree.Subtree.{Subtree}
use Rattle.rx_fiber.specs.FiberView.{changed}
use Rattle.rx_fiber.specs.declared.stage.StageChange.TheVariants as change
use Rattle.rx_fiber.specs.Stood.{gave, given_in}
use Rattle.rx_fiber.specs.Surround.{moves_along, open_element}
use Rattle.rx_fiber.specs.Standing.{IsStack, opened, StandsAt, completes}
use Rattle.rx_fiber.proofs.Completing.{Completes, completing}
use Rattle.rx_complete.specs.declared.completing.Next.{Next}
use Rattle.rx_complete.specs.Ends.{IsAtEnd, ends, HasMadeList, fiber_in, next_by, next_after, LeadsTo}
use Rattle.rx_complete.proofs.Leading.{fiber_next, next_is, arrive_leads}

-- what each made fiber is to the two trees
abbrev pub KnowsPlaces : Trees Fiber → Type 0
KnowsPlaces t = (k : Around Fiber) (p : ℕ) (v : Fiber) (o : Option ℕ) (ks rs : Draft Fiber) → t.draft ≡ placed k (made p v o ks rs) → IsAt t k p v o ks rs

-- what leaving an open node of this element makes of the stack
abbrev pub Leaves : Element → Stack → Stack → Type 0
Leaves e st new =
    ((x : Open) (cs : Contexts) (xs : List (Open × Contexts)) → e ≡ open_element x → IsStack st ((x, cs) ∷ xs) → IsStack new xs)
    × ((g : Option (ℕ × ℤ)) (moves : List (ℕ × Bool)) → st.moves ≡ moves_by (given_in e) g moves → new.moves ≡ moves)

-- the change that completes a fiber
abbrev pub marked : Subtree → Trees Fiber → ℕ → Trees Fiber
marked g t q = record t { draft = valued q (changed (change.Complete g)) t.draft }

pub end_made : (t : Trees Fiber) (st : Stack) (q : ℕ) → KnowsPlaces t → IsAtEnd t st q → Makes t.draft q
end_made t st q f (ends h) = let c = completing t st q _ _ _ _ h in (f c.around q c.value c.old c.kids c.rest c.here).makes

-- all its children are made
pub end_list : (t : Trees Fiber) (st : Stack) (q : ℕ) → IsAtEnd t st q → HasMadeList t q
end_list t st q (ends h) =
    let c = completing t st q _ _ _ _ h in
    record { around = c.around; value = c.value; old = c.old; kids = c.kids; rest = c.rest; here = c.here; all_made = c.all_made }

module _ (g : Subtree) (t : Trees Fiber) (st : Stack) (q : ℕ) (levels : ℕ) (fs : List Frame) (x : Open) (done : List (Option Node))
    (h : StandsAt t st (Some q) (at_end levels fs x done)) (knows : KnowsPlaces t) where
  abbrev it : Completes t st q fs x done
  it = completing t st q levels fs x done h

  marked_here : (new : Trees Fiber) → new ≡ marked g t q → new.draft ≡ placed it.around (made q (completed g it.value) it.old it.kids it.rest)
  marked_here new e =
      ap (λ n. n.draft) e ∙ (knows it.around q it.value it.old it.kids it.rest it.here).value (changed (change.Complete g))

  marked_next : (new : Trees Fiber) → new ≡ marked g t q → KnowsPlaces new → next_after new.draft q ≡ next_by (entry it.rest) (up_of it.around)
  marked_next new e f =
      next_is new it.around q (completed g it.value) it.old it.kids it.rest
      (f it.around q (completed g it.value) it.old it.kids it.rest (marked_here new e))

  marked_stack : (st' : Stack) → ((cs : Contexts) → IsStack st ((x, cs) ∷ opened fs) → IsStack st' (opened fs)) → IsStack st' (opened fs)
  marked_stack st' f = elim h [ completes here before list stack moves ↦ f _ stack ]

  value_is : (v : Fiber) → Some v ≡ made_value_of t.draft q → v ≡ it.value
  value_is v e =
      let l = (knows it.around q it.value it.old it.kids it.rest it.here).list in
      let m : Some v ≡ Some it.value = rw l at e in
      cc

  -- the render stands where the unit of its cursor comes
  pub marked_stands : (s : Sight) (new : Trees Fiber) (st' : Stack) (result : Next) (element : Element) (v : Fiber)
      → new ≡ marked g t q → KnowsPlaces new → Some v ≡ made_value_of t.draft q → element ≡ v.element
      → Leaves element st st'
      → result ≡ next_after new.draft q → StandsAt new st' (fiber_in result) (unit s (at_end levels fs x done))
  unfolding unit
  marked_stands s new st' result element v e f value is leaves answer =
      subst (λ at. StandsAt new st' at (arrive levels fs (Some (finished x done))))
      (sym (ap fiber_in (answer ∙ marked_next new e f) ∙ fiber_next (entry it.rest) (up_of it.around)))
      (it.arrives g new st' levels (ap (λ n. n.current) e) (marked_here new e)
      (marked_stack st' (λ cs stack. leaves.0 x cs (opened fs) (is ∙ (ap (λ u. u.element) (value_is v value) ∙ it.element)) stack))
      (leaves.1 (gave t.current it.old) (moves_along t.current it.around)
      (subst (λ y. st.moves ≡ moves_by (given_in y) (gave t.current it.old) (moves_along t.current it.around)) (sym (is ∙ ap (λ u. u.element) (value_is v value))) it.moves)))

  -- the answer is of the form of that place
  pub marked_leads : (s : Sight) (new : Trees Fiber) (result : Next) → new ≡ marked g t q → KnowsPlaces new → result ≡ next_after new.draft q
      → LeadsTo result (unit s (at_end levels fs x done))
  unfolding unit
  marked_leads s new result e f answer =
      subst (λ r. LeadsTo r (arrive levels fs (Some (finished x done)))) (sym (answer ∙ (marked_next new e f ∙ ap (λ u. next_by (entry it.rest) u) it.parent)))
      (arrive_leads t.current it.first it.place levels it.rest fs (Some (finished x done)) it.surrounds)

  new_made : (new : Trees Fiber) → new ≡ marked g t q → KnowsPlaces new → Makes new.draft q
  new_made new e f = (f it.around q (completed g it.value) it.old it.kids it.rest (marked_here new e)).makes

  same_next : (new : Trees Fiber) → new ≡ marked g t q → KnowsPlaces new → next_after new.draft q ≡ next_after t.draft q
  same_next new e f =
      marked_next new e f
      ∙ sym (next_is t it.around q it.value it.old it.kids it.rest (knows it.around q it.value it.old it.kids it.rest it.here))

-- the fiber is made still
pub still_made : (g : Subtree) (t new : Trees Fiber) (st : Stack) (q : ℕ) → KnowsPlaces t → new ≡ marked g t q → KnowsPlaces new → IsAtEnd t st q → Makes new.draft q
still_made g t new st q knows e f (ends h) = new_made g t st q _ _ _ _ h knows new e f

-- the same comes after it
pub next_same : (g : Subtree) (t new : Trees Fiber) (st : Stack) (q : ℕ) → KnowsPlaces t → new ≡ marked g t q → KnowsPlaces new → IsAtEnd t st q
    → next_after new.draft q ≡ next_after t.draft q
next_same g t new st q knows e f (ends h) = same_next g t st q _ _ _ _ h knows new e f
