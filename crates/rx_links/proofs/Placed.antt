-- A change at the cursor changes what is placed there, and nothing around it.
use Rattle.std.proofs.Common.{◌≡◌, ℕ, ◌⊎◌, inl, inr, sym, ◌∙◌, refl, eq-eqb, Option, Some, None, IfSome}
use Rattle.rx_lists.specs.Shapes.{Holds}
use Rattle.rx_lists.proofs.Frames.{eqb-false}
use Rattle.rx_links.specs.Drafts.{Draft, taken, made, Trees, Fits, Makes, IsMadeOnce, IsFor, HasMadeKids, IsMadeList, IsEmpty, IsTopUnused, old_of, rekidded, rerested, valued}
use Rattle.rx_links.specs.Places.{Around, top, below, after, placed, up_of, IsAt}
use Rattle.rx_links.specs.Readers.{made_list_at, made_parent_in}
use Rattle.rx_links.proofs.Edits.{KidsFor, kids_for-makes, kids_for-for, old_of-is, rekidded-absent}
use Rattle.rx_links.proofs.Inserting.{parent-some}
use Rattle.rx_links.proofs.Reading.{made_list_at-absent, made_parent-absent}
use Rattle.rx_links.proofs.Unused.{kid-unused}
use Rattle.rx_links.proofs.Whole.{for-held}

module _ {F : Type 0} where
  -- the fiber is made, and surrounds the place
  abbrev pub MakesAround : Around F → ℕ → Type 0
  MakesAround top i = ⊥
  MakesAround (below id v o rs k) i = (i ≡ id) ⊎ (Makes rs i ⊎ MakesAround k i)
  MakesAround (after id v o ks k) i = (i ≡ id) ⊎ (Makes ks i ⊎ MakesAround k i)

  pub valued-absent : (p : ℕ) (m : F → F) (w : Draft F) → (Makes w p → ⊥) → valued p m w ≡ w
  valued-absent p m (taken s) n = refl
  valued-absent p m (made id v o ks rs) n =
      rw (eqb-false id p (λ e. n (inl (sym e))), valued-absent p m ks (λ x. n (inr (inl x))), valued-absent p m rs (λ x. n (inr (inr x)))) refl

  pub rerested-absent : (p : ℕ) (f : Draft F → Draft F) (w : Draft F) → (Makes w p → ⊥) → rerested p f w ≡ w
  rerested-absent p f (taken s) n = refl
  rerested-absent p f (made id v o ks rs) n =
      rw (eqb-false id p (λ e. n (inl (sym e))), rerested-absent p f ks (λ x. n (inr (inl x))), rerested-absent p f rs (λ x. n (inr (inr x)))) refl

  rerested-placed : (p : ℕ) (f : Draft F → Draft F) (k : Around F) (d : Draft F) → (MakesAround k p → ⊥) → rerested p f (placed k d) ≡ placed k (rerested p f d)
  rerested-placed p f top d n = refl
  rerested-placed p f (below id v o rs k) d n =
      rerested-placed p f k (made id v o d rs) (λ m. n (inr (inr m)))
      ∙ rw (eqb-false id p (λ e. n (inl (sym e))), rerested-absent p f rs (λ m. n (inr (inl m)))) refl
  rerested-placed p f (after id v o ks k) d n =
      rerested-placed p f k (made id v o ks d) (λ m. n (inr (inr m)))
      ∙ rw (eqb-false id p (λ e. n (inl (sym e))), rerested-absent p f ks (λ m. n (inr (inl m)))) refl

  rekidded-placed : (p : ℕ) (f : Draft F → Draft F) (k : Around F) (d : Draft F) → (MakesAround k p → ⊥) → rekidded p f (placed k d) ≡ placed k (rekidded p f d)
  rekidded-placed p f top d n = refl
  rekidded-placed p f (below id v o rs k) d n =
      rekidded-placed p f k (made id v o d rs) (λ m. n (inr (inr m)))
      ∙ rw (eqb-false id p (λ e. n (inl (sym e))), rekidded-absent p f rs (λ m. n (inr (inl m)))) refl
  rekidded-placed p f (after id v o ks k) d n =
      rekidded-placed p f k (made id v o ks d) (λ m. n (inr (inr m)))
      ∙ rw (eqb-false id p (λ e. n (inl (sym e))), rekidded-absent p f ks (λ m. n (inr (inl m)))) refl

  valued-placed : (p : ℕ) (f : F → F) (k : Around F) (d : Draft F) → (MakesAround k p → ⊥) → valued p f (placed k d) ≡ placed k (valued p f d)
  valued-placed p f top d n = refl
  valued-placed p f (below id v o rs k) d n =
      valued-placed p f k (made id v o d rs) (λ m. n (inr (inr m)))
      ∙ rw (eqb-false id p (λ e. n (inl (sym e))), valued-absent p f rs (λ m. n (inr (inl m)))) refl
  valued-placed p f (after id v o ks k) d n =
      valued-placed p f k (made id v o ks d) (λ m. n (inr (inr m)))
      ∙ rw (eqb-false id p (λ e. n (inl (sym e))), valued-absent p f ks (λ m. n (inr (inl m)))) refl

  -- what is made once at a place is not made around it
  pub placed-once : (k : Around F) (d : Draft F) → IsMadeOnce (placed k d) → IsMadeOnce d
  placed-once top d h = h
  placed-once (below id v o rs k) d h = let q = placed-once k (made id v o d rs) h in q.3
  placed-once (after id v o ks k) d h = let q = placed-once k (made id v o ks d) h in q.4

  pub placed-apart : (k : Around F) (d : Draft F) → IsMadeOnce (placed k d) → (i : ℕ) → Makes d i → MakesAround k i → ⊥
  placed-apart top d h i m a = a
  placed-apart (below id v o rs k) d h i m (inl e) = let q = placed-once k (made id v o d rs) h in q.0 (rw (← e) m)
  placed-apart (below id v o rs k) d h i m (inr (inl a)) = let q = placed-once k (made id v o d rs) h in q.2 i m a
  placed-apart (below id v o rs k) d h i m (inr (inr a)) = placed-apart k (made id v o d rs) h i (inr (inl m)) a
  placed-apart (after id v o ks k) d h i m (inl e) = let q = placed-once k (made id v o ks d) h in q.1 (rw (← e) m)
  placed-apart (after id v o ks k) d h i m (inr (inl a)) = let q = placed-once k (made id v o ks d) h in q.2 i a m
  placed-apart (after id v o ks k) d h i m (inr (inr a)) = placed-apart k (made id v o ks d) h i (inr (inr m)) a

  -- new children at the cursor
  pub rekidded-here : (f : Draft F → Draft F) (k : Around F) (p : ℕ) (v : F) (o : Option ℕ) (ks rs : Draft F) → IsMadeOnce (placed k (made p v o ks rs))
      → rekidded p f (placed k (made p v o ks rs)) ≡ placed k (made p v o (f ks) rs)
  rekidded-here f k p v o ks rs h =
      let q = placed-once k (made p v o ks rs) h in
      rekidded-placed p f k (made p v o ks rs) (placed-apart k (made p v o ks rs) h p (inl refl))
      ∙ rw (eq-eqb p p refl, rekidded-absent p f rs q.1) refl

  -- another value at the cursor
  pub valued-here : (f : F → F) (k : Around F) (p : ℕ) (v : F) (o : Option ℕ) (ks rs : Draft F) → IsMadeOnce (placed k (made p v o ks rs))
      → valued p f (placed k (made p v o ks rs)) ≡ placed k (made p (f v) o ks rs)
  valued-here f k p v o ks rs h =
      let q = placed-once k (made p v o ks rs) h in
      valued-placed p f k (made p v o ks rs) (placed-apart k (made p v o ks rs) h p (inl refl))
      ∙ rw (eq-eqb p p refl, valued-absent p f ks q.0, valued-absent p f rs q.1) refl

  -- something else behind the cursor
  pub rerested-here : (f : Draft F → Draft F) (k : Around F) (p : ℕ) (v : F) (o : Option ℕ) (ks rs : Draft F) → IsMadeOnce (placed k (made p v o ks rs))
      → rerested p f (placed k (made p v o ks rs)) ≡ placed k (made p v o ks (f rs))
  rerested-here f k p v o ks rs h =
      let q = placed-once k (made p v o ks rs) h in
      rerested-placed p f k (made p v o ks rs) (placed-apart k (made p v o ks rs) h p (inl refl))
      ∙ rw (eq-eqb p p refl, rerested-absent p f ks q.0) refl

  kids_for-placed : (k : Around F) (d : Draft F) (p : ℕ) (o : Option ℕ) (ks : Draft F) → KidsFor d p o ks → KidsFor (placed k d) p o ks
  kids_for-placed top d p o ks h = h
  kids_for-placed (below id v q rs k) d p o ks h = kids_for-placed k (made id v q d rs) p o ks (inr (inl h))
  kids_for-placed (after id v q ls k) d p o ks h = kids_for-placed k (made id v q ls d) p o ks (inr (inr h))

  has-placed : (Q : Draft F → Type 0) (k : Around F) (d : Draft F) (p : ℕ) → HasMadeKids Q d p → HasMadeKids Q (placed k d) p
  has-placed Q top d p h = h
  has-placed Q (below id v q rs k) d p h = has-placed Q k (made id v q d rs) p (inr (inl h))
  has-placed Q (after id v q ls k) d p h = has-placed Q k (made id v q ls d) p (inr (inr h))

  list-placed : (k : Around F) (d x : Draft F) (p : ℕ) → (MakesAround k p → ⊥) → made_list_at d p ≡ Some x → made_list_at (placed k d) p ≡ Some x
  list-placed top d x p n e = e
  list-placed (below id v q rs k) d x p n e =
      list-placed k (made id v q d rs) x p (λ m. n (inr (inr m)))
      (rw (eqb-false id p (λ z. n (inl (sym z))), e) refl)
  list-placed (after id v q ls k) d x p n e =
      list-placed k (made id v q ls d) x p (λ m. n (inr (inr m)))
      (rw (eqb-false id p (λ z. n (inl (sym z))), made_list_at-absent ls p (λ m. n (inr (inl m))), e) refl)

  parent-placed : (k : Around F) (d : Draft F) (p : ℕ) → (MakesAround k p → ⊥) → Makes d p → made_parent_in None (placed k d) p ≡ made_parent_in (up_of k) d p
  parent-placed top d p n m = refl
  parent-placed (below id v q rs k) d p n m =
      let x = parent-some id d p m in
      parent-placed k (made id v q d rs) p (λ z. n (inr (inr z))) (inr (inl m))
      ∙ rw (eqb-false id p (λ z. n (inl (sym z))), x.1) refl
  parent-placed (after id v q ls k) d p n m =
      parent-placed k (made id v q ls d) p (λ z. n (inr (inr z))) (inr (inr m))
      ∙ rw (eqb-false id p (λ z. n (inl (sym z))), made_parent-absent (Some id) ls p (λ z. n (inr (inl z)))) refl

  -- all of that, of the tree in progress
  pub is-at : (t : Trees F) → Fits t → (k : Around F) (p : ℕ) (v : F) (o : Option ℕ) (ks rs : Draft F) → t.draft ≡ placed k (made p v o ks rs) → IsAt t k p v o ks rs
  is-at t h k p v o ks rs e = record {
    makes = kids_for-makes t.draft p o ks mine;
    opens = λ q. rw e (has-placed IsMadeList k (made p v o ks rs) p (inl (refl, q)));
    bare = λ q. rw e (has-placed IsEmpty k (made p v o ks rs) p (inl (refl, q)));
    list = rw e (list-placed k (made p v o ks rs) (made p v o ks rs) p away (rw (eq-eqb p p refl) refl));
    parent = rw e (parent-placed k (made p v o ks rs) p away (inl refl) ∙ rw (eq-eqb p p refl) refl);
    old = old_is;
    old_held = by_old o (kids_for-for t.draft p o ks mine);
    unused = λ j top free. kid-unused t p j h (rw e (has-placed (λ x. IsTopUnused x j) k (made p v o ks rs) p (inl (refl, free)))) (rw (← old_is) at top);
    kids = λ f. rw e (rekidded-here f k p v o ks rs once);
    rest = λ f. rw e (rerested-here f k p v o ks rs once);
    value = λ m. rw e (valued-here m k p v o ks rs once);
  }
    where
      once : IsMadeOnce (placed k (made p v o ks rs))
      once = let q = h.made_once in rw e at q

      away : MakesAround k p → ⊥
      away = placed-apart k (made p v o ks rs) once p (inl refl)

      mine : KidsFor t.draft p o ks
      mine = rw e (kids_for-placed k (made p v o ks rs) p o ks (inl (refl, refl, refl)))

      old_is : old_of t.draft p ≡ o
      old_is = old_of-is t.draft p o h.made_once (kids_for-for t.draft p o ks mine)

      by_old : (q : Option ℕ) → IsFor t.draft p q → IfSome q (Holds t.current)
      by_old None f = tt
      by_old (Some j) f = for-held t.current t.draft p j h.follows f
