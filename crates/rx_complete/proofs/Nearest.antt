-- The walk outwards passes each fiber whose stage does not pass a test, and so comes to the nearest one whose does.
use Rattle.std.specs.Prelude.{◌≡◌, ℕ, Bool, true, false, Option, Some, None, IsSome, if◌then◌else◌}
use Rattle.std.proofs.Common.{refl, sym, ap, ◌∙◌, subst}
use Rattle.rx_lists.specs.Shapes.{none}
use Rattle.rx_links.specs.Drafts.{Draft, taken, made, Trees, taking}
use Rattle.rx_links.specs.Places.{Around, top, below, after, placed, up_of}
use Rattle.rx_links.specs.Readers.{made_parent_of, made_value_of}
use Rattle.rx_fiber.specs.Fibers.{Fiber, Stage}
use Rattle.rx_ctx.specs.Contexts.{Stack}
use Rattle.rx_fiber.specs.Unwound.{is_guarding}
use Rattle.rx_complete.specs.Ends.{IsGuardedAt, IsOpenBelow, lies, Outer, nearest_where}
use Rattle.rx_complete.proofs.Completed.{KnowsPlaces}

module _ (stops : Stage → Bool) where
  -- the fiber q, among whose children a place lies, with what surrounds it
  record Up (k : Around Fiber) (q : ℕ) (d : Draft Fiber) : Type 0 where
    pub outer : Outer
    pub kids : Draft Fiber
    pub id : outer.id ≡ q
    pub here : placed k d ≡ placed outer.around (made q outer.value outer.old kids outer.rest)
    pub near : nearest_where stops k ≡ (if stops outer.value.stage then Some outer else nearest_where stops outer.around)

  up : (k : Around Fiber) (q : ℕ) (d : Draft Fiber) → up_of k ≡ Some q → Up k q d
  up top q d e = absurd (let h : ⊥ = cc in h)
  up (below id v o rs k) q d e =
      let same : id ≡ q = cc in
      record {
        outer = record { around = k; id = id; value = v; old = o; rest = rs };
        kids = d;
        id = same;
        here = ap (λ i. placed k (made i v o d rs)) same;
        near = refl;
      }
  up (after id v o ks k) q d e =
      let u = up k q (made id v o ks d) e in
      record { outer = u.outer; kids = u.kids; id = u.id; here = u.here; near = u.near }

  no_outer : (k : Around Fiber) → up_of k ≡ None → nearest_where stops k ≡ None
  no_outer top e = refl
  no_outer (below id v o rs k) e = absurd (let h : ⊥ = cc in h)
  no_outer (after id v o ks k) e = no_outer k e

  -- Each place of `at` has the same nearest one as some place of `here`.
  abbrev pub ComesFrom : Trees Fiber → (at here : ℕ) → Type 0
  ComesFrom t at here =
      (k : Around Fiber) (v : Fiber) (o : Option ℕ) (ks rs : Draft Fiber) → t.draft ≡ placed k (made at v o ks rs)
      → (l : Around Fiber) × (w : Fiber) × (p : Option ℕ) × (ls ss : Draft Fiber) × (t.draft ≡ placed l (made here w p ls ss)) × (nearest_where stops k ≡ nearest_where stops l)

  pub at_first : (t : Trees Fiber) (at : ℕ) → ComesFrom t at at
  at_first t at k v o ks rs here = (k, v, o, ks, rs, here, refl)

  module _ (t : Trees Fiber) (knows : KnowsPlaces t) (at here : ℕ) (comes : ComesFrom t at here) where
    module _ (q : ℕ) (x : Fiber) (parent : made_parent_of t.draft here ≡ Some q) (value : Some x ≡ made_value_of t.draft q) where
      -- the fiber q around a place of `here`
      here_up : (l : Around Fiber) (w : Fiber) (p : Option ℕ) (ls ss : Draft Fiber) → t.draft ≡ placed l (made here w p ls ss) → Up l q (made here w p ls ss)
      here_up l w p ls ss e = up l q (made here w p ls ss) (sym (knows l here w p ls ss e).parent ∙ parent)

      value_same : (u : Outer) (kids : Draft Fiber) → t.draft ≡ placed u.around (made q u.value u.old kids u.rest) → x ≡ u.value
      value_same u kids e =
          let l = (knows u.around q u.value u.old kids u.rest e).list in
          let m : Some x ≡ Some u.value = rw l at value in
          cc

      pub passes : stops x.stage ≡ false → ComesFrom t at q
      passes out k v o ks rs e =
          let (l, w, p, ls, ss, place, same) = comes k v o ks rs e in
          let u = here_up l w p ls ss place in
          let there = place ∙ u.here in
          let not = ap (λ y. stops y.stage) (sym (value_same u.outer u.kids there)) ∙ out in
          (u.outer.around, u.outer.value, u.outer.old, u.kids, u.outer.rest, there, same ∙ (u.near ∙ ap (λ b. if b then Some u.outer else nearest_where stops u.outer.around) not))

      pub comes_to : stops x.stage ≡ true → (k : Around Fiber) (v : Fiber) (o : Option ℕ) (ks rs : Draft Fiber) → t.draft ≡ placed k (made at v o ks rs)
          → (u : Outer) × (nearest_where stops k ≡ Some u) × (u.id ≡ q) × (kids : Draft Fiber) × (t.draft ≡ placed u.around (made q u.value u.old kids u.rest))
      comes_to is k v o ks rs e =
          let (l, w, p, ls, ss, place, same) = comes k v o ks rs e in
          let u = here_up l w p ls ss place in
          let there = place ∙ u.here in
          let tries = ap (λ y. stops y.stage) (sym (value_same u.outer u.kids there)) ∙ is in
          (u.outer, same ∙ (u.near ∙ ap (λ b. if b then Some u.outer else nearest_where stops u.outer.around) tries), u.id, u.kids, there)

    pub comes_to_none : made_parent_of t.draft here ≡ None → (k : Around Fiber) (v : Fiber) (o : Option ℕ) (ks rs : Draft Fiber) → t.draft ≡ placed k (made at v o ks rs)
        → nearest_where stops k ≡ None
    comes_to_none parent k v o ks rs e =
        let (l, w, p, ls, ss, place, same) = comes k v o ks rs e in
        same ∙ no_outer l (sym (knows l here w p ls ss place).parent ∙ parent)

-- what is made below the nearest one is dropped
pub dropped : (t new : Trees Fiber) → KnowsPlaces t → (q : ℕ) → new ≡ record t { draft = taking q none t.draft } → (u : Outer) (kids : Draft Fiber)
    → t.draft ≡ placed u.around (made q u.value u.old kids u.rest) → new.draft ≡ placed u.around (made q u.value u.old (taken none) u.rest)
dropped t new knows q e u kids here = ap (λ n. n.draft) e ∙ (knows u.around q u.value u.old kids u.rest here).kids (λ ks. taken none)

-- with nothing outside, no error boundary tries its children there
pub unguarded : (t : Trees Fiber) (knows : KnowsPlaces t) (at here : ℕ) → ComesFrom is_guarding t at here → made_parent_of t.draft here ≡ None → {st : Stack} → IsOpenBelow t st at → IsGuardedAt t at → ⊥
unguarded t knows at here comes parent (lies w) guarded =
    let h : false ≡ true =
    subst IsSome (comes_to_none is_guarding t knows at here comes parent w.around w.value w.old w.kids w.rest w.here) (guarded w.around w.value w.old w.kids w.rest w.here) in
    let q : ⊥ = cc in
    q
