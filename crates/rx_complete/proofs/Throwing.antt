-- The walk outwards follows the throw of the cursor.
use Rattle.std.specs.Prelude.{◌≡◌, ℕ, ℤ, suc, true, false, List, Some}
use Rattle.std.proofs.Common.{refl, sym, ap, ◌∙◌, subst}
use Rattle.rx_ctx.specs.Contexts.{Stack, moves_by}
use Rattle.rx_elem.specs.Elements.{Element}
use Rattle.rx_lists.specs.Shapes.{none}
use Rattle.rx_links.specs.Drafts.{Draft, taken, Trees, Makes, taking}
use Rattle.rx_links.specs.Readers.{made_parent_of, made_value_of}
use Rattle.rx_meaning.specs.Cursor.{Cursor, Frame, unwind_throw}
use Rattle.rx_fiber.specs.Fibers.{Fiber}
use Rattle.rx_fiber.specs.Stood.{gave, given_in}
use Rattle.rx_fiber.specs.Surround.{moves_along}
use Rattle.rx_fiber.specs.Standing.{opened}
use Rattle.rx_fiber.specs.Unwound.{IsWithin, is_guarding, IsCaughtAt}
use Rattle.rx_complete.specs.Ends.{IsOpenBelow, lies}
use Rattle.rx_complete.proofs.Completed.{KnowsPlaces, Leaves}
use Rattle.rx_complete.proofs.Waiting.{Above, above, outer_value}

-- The throw outside of `at` has come to `here`: it is the same from there, whatever is thrown.
abbrev pub Reaches : Trees Fiber → Stack → ℕ → Stack → ℕ → Type 0
Reaches t st at new here =
    (levels : ℕ) (fs : List Frame) → IsWithin t st at fs
    → (more : ℕ) × (outer : List Frame) × IsWithin t new here outer × ((x : ℤ) → unwind_throw levels fs x ≡ unwind_throw more outer x)

pub here_below : (t : Trees Fiber) (st new : Stack) (at here : ℕ) → Reaches t st at new here → IsOpenBelow t st at → IsOpenBelow t new here
here_below t st new at here f (lies {fs = fs} w) = let (more, outer, v, e) = f 0 fs w in lies v

module _ (t : Trees Fiber) (knows : KnowsPlaces t) (st : Stack) (p q : ℕ) (fs : List Frame) (n : Above t knows st p q fs) where
  -- the throw goes past it
  throws_past : (new : Stack) (v : Fiber) (e : Element) (levels : ℕ) → Some v ≡ made_value_of t.draft q → is_guarding v.stage ≡ false → e ≡ v.element → Leaves e st new
      → (more : ℕ) × (outer : List Frame) × IsWithin t new q outer × ((x : ℤ) → unwind_throw levels fs x ≡ unwind_throw more outer x)
  throws_past new v e levels value out element leaves =
      let o = n.is in
      let same = outer_value t knows st p q fs n v value in (
        suc levels,
        n.frames,
        subst (λ i. IsWithin t new i n.frames) n.same (o.within new (leaves.0 n.frame.node n.frame.contexts (opened n.frames) (element ∙ (ap (λ u. u.element) same ∙ o.element)) n.stack)
            (leaves.1 (gave t.current o.old) (moves_along t.current o.around)
            (subst (λ y. st.moves ≡ moves_by (given_in y) (gave t.current o.old) (moves_along t.current o.around)) (sym (element ∙ ap (λ u. u.element) same)) o.moves))),
        λ x. ap (λ l. unwind_throw levels l x) n.are ∙ o.throws_on (subst (λ u. is_guarding u.stage ≡ false) same out) levels x,
      )

  -- the throw stops there
  catches : (v : Fiber) (levels : ℕ) (x : ℤ) → Some v ≡ made_value_of t.draft q → is_guarding v.stage ≡ true → (kids : Draft Fiber) × IsCaughtAt t st q kids x (unwind_throw levels fs x)
  catches v levels x value in_it =
      let o = n.is in
      let same = outer_value t knows st p q fs n v value in (
        o.kids,
        subst (λ i. IsCaughtAt t st i o.kids x (unwind_throw levels fs x)) n.same
            (subst (λ l. IsCaughtAt t st o.id o.kids x (unwind_throw levels l x)) (sym n.are)
            (o.caught (subst (λ u. is_guarding u.stage ≡ true) same in_it) t o.kids levels x refl o.here)),
      )

module _ (t : Trees Fiber) (knows : KnowsPlaces t) (st₀ st : Stack) (at here : ℕ) (reaches : Reaches t st₀ at st here) where
  pub goes_on : (new : Stack) (q : ℕ) (v : Fiber) (e : Element) → made_parent_of t.draft here ≡ Some q → Some v ≡ made_value_of t.draft q → is_guarding v.stage ≡ false
      → e ≡ v.element → Leaves e st new → Reaches t st₀ at new q
  goes_on new q v e parent value out element leaves levels fs w =
      let (more, outer, x, same) = reaches levels fs w in
      let (most, last, y, too) = throws_past t knows st here q outer (above t knows st here q outer x parent) new v e more value out element leaves in
      (most, last, y, λ z. same z ∙ too z)

  pub stops_at : (q : ℕ) (v : Fiber) → made_parent_of t.draft here ≡ Some q → Some v ≡ made_value_of t.draft q → is_guarding v.stage ≡ true
      → (x : ℤ) (levels : ℕ) (fs : List Frame) → IsWithin t st₀ at fs → (kids : Draft Fiber) × IsCaughtAt t st q kids x (unwind_throw levels fs x)
  stops_at q v parent value in_it x levels fs w =
      let (more, outer, y, same) = reaches levels fs w in
      let (kids, left) = catches t knows st here q outer (above t knows st here q outer y parent) v more x value in_it in
      (kids, subst (λ c. IsCaughtAt t st q kids x c) (sym (same x)) left)

-- the boundary that was found is made
pub found_made : (t : Trees Fiber) (st new : Stack) (at q : ℕ) (x : ℤ) → KnowsPlaces t → IsOpenBelow t st at
    → ((levels : ℕ) (fs : List Frame) → IsWithin t st at fs → (kids : Draft Fiber) × IsCaughtAt t new q kids x (unwind_throw levels fs x)) → Makes t.draft q
found_made t st new at q x knows (lies {fs = fs} w) f =
    let (kids, l) = f 0 fs w in (knows l.around q l.value l.old kids l.rest l.here).makes

-- what it made below it is dropped
pub caught_bare : (t new : Trees Fiber) (st : Stack) (q : ℕ) (kids : Draft Fiber) (x : ℤ) (c : Cursor) → KnowsPlaces t → new ≡ record t { draft = taking q none t.draft }
    → IsCaughtAt t st q kids x c → IsCaughtAt new st q (taken none) x c
caught_bare t new st q kids x c knows is l =
    subst (λ n. IsCaughtAt n st q (taken none) x c) (sym is)
    (record {
      around = l.around;
      value = l.value;
      old = l.old;
      rest = l.rest;
      levels = l.levels;
      frames = l.frames;
      here = (knows l.around q l.value l.old kids l.rest l.here).kids (λ ks. taken none);
      stage = l.stage;
      catcher = l.catcher;
      of_node = l.of_node;
      surrounds = l.surrounds;
      stack = l.stack;
      moves = l.moves;
      opens = l.opens;
    })
