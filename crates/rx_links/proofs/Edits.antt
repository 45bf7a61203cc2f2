-- A draft with other children at one made fiber.
use Rattle.std.proofs.Common.{◌≡◌, ◌≢◌, ℕ, Bool, true, false, eqb, ◌⊎◌, inl, inr, ap, sym, refl, eqb-true, eq-eqb, cond, Some, None, Option}
use Rattle.rx_lists.specs.Shapes.{Shape, none, fiber, Holds, IsTree, IsTop}
use Rattle.rx_lists.proofs.Frames.{eqb-false}
use Rattle.rx_links.specs.Drafts.{Draft, taken, made, or_else, Makes, IsMadeOnce, IsFor, IsUnused, old_of, HasMadeKids, rekidded, HasTop, kids_at, shape_or_none, kids_under, IsOldKids, Follows}
use Rattle.rx_links.proofs.Parts.{HasKids}
use Rattle.rx_links.proofs.Whole.{for-makes}

pub or-none : (o : Option ℕ) → or_else o None ≡ o
or-none None = refl
or-none (Some x) = refl

module _ {F : Type 0} where
  -- the made fiber i was made for o, and has the children ks
  abbrev pub KidsFor : Draft F → ℕ → Option ℕ → Draft F → Type 0
  KidsFor (taken s) i o ks = ⊥
  KidsFor (made id v old ls rs) i o ks = ((i ≡ id) × (old ≡ o) × (ls ≡ ks)) ⊎ (KidsFor ls i o ks ⊎ KidsFor rs i o ks)

  pub kids_for-makes : (w : Draft F) (i : ℕ) (o : Option ℕ) (ks : Draft F) → KidsFor w i o ks → Makes w i
  kids_for-makes (taken s) i o ks h = h
  kids_for-makes (made id v old ls rs) i o ks (inl h) = inl h.0
  kids_for-makes (made id v old ls rs) i o ks (inr (inl h)) = inr (inl (kids_for-makes ls i o ks h))
  kids_for-makes (made id v old ls rs) i o ks (inr (inr h)) = inr (inr (kids_for-makes rs i o ks h))

  pub has-makes : (Q : Draft F → Type 0) (w : Draft F) (i : ℕ) → HasMadeKids Q w i → Makes w i
  has-makes Q (taken s) i h = h
  has-makes Q (made id v o ks rs) i (inl h) = inl h.0
  has-makes Q (made id v o ks rs) i (inr (inl h)) = inr (inl (has-makes Q ks i h))
  has-makes Q (made id v o ks rs) i (inr (inr h)) = inr (inr (has-makes Q rs i h))

  -- what holds of the children holds of the only ones
  pub kids-all : (Q : Draft F → Type 0) (w : Draft F) (i : ℕ) → IsMadeOnce w → HasMadeKids Q w i → (o : Option ℕ) (ks : Draft F) → KidsFor w i o ks → Q ks
  kids-all Q (taken s) i m h o ks k = absurd k
  kids-all Q (made id v old ls rs) i m (inl h) o ks (inl k) = rw (← k.2) h.1
  kids-all Q (made id v old ls rs) i m (inl h) o ks (inr (inl k)) = absurd (m.0 (rw h.0 at (kids_for-makes ls i o ks k)))
  kids-all Q (made id v old ls rs) i m (inl h) o ks (inr (inr k)) = absurd (m.1 (rw h.0 at (kids_for-makes rs i o ks k)))
  kids-all Q (made id v old ls rs) i m (inr (inl h)) o ks (inl k) = absurd (m.0 (rw k.0 at (has-makes Q ls i h)))
  kids-all Q (made id v old ls rs) i m (inr (inl h)) o ks (inr (inl k)) = kids-all Q ls i m.3 h o ks k
  kids-all Q (made id v old ls rs) i m (inr (inl h)) o ks (inr (inr k)) = absurd (m.2 i (has-makes Q ls i h) (kids_for-makes rs i o ks k))
  kids-all Q (made id v old ls rs) i m (inr (inr h)) o ks (inl k) = absurd (m.1 (rw k.0 at (has-makes Q rs i h)))
  kids-all Q (made id v old ls rs) i m (inr (inr h)) o ks (inr (inl k)) = absurd (m.2 i (kids_for-makes ls i o ks k) (has-makes Q rs i h))
  kids-all Q (made id v old ls rs) i m (inr (inr h)) o ks (inr (inr k)) = kids-all Q rs i m.4 h o ks k

  pub makes-for : (w : Draft F) (i : ℕ) → Makes w i → (o : Option ℕ) × IsFor w i o
  makes-for (taken s) i m = absurd m
  makes-for (made id v o ks rs) i (inl e) = (o, inl (e, refl))
  makes-for (made id v o ks rs) i (inr (inl m)) = let r = makes-for ks i m in (r.0, inr (inl r.1))
  makes-for (made id v o ks rs) i (inr (inr m)) = let r = makes-for rs i m in (r.0, inr (inr r.1))

  pub makes-kids : (w : Draft F) (i : ℕ) → Makes w i → (o : Option ℕ) × (ks : Draft F) × KidsFor w i o ks
  makes-kids (taken s) i m = absurd m
  makes-kids (made id v o ks rs) i (inl e) = (o, ks, inl (e, refl, refl))
  makes-kids (made id v o ks rs) i (inr (inl m)) = let r = makes-kids ks i m in (r.0, r.1, inr (inl r.2))
  makes-kids (made id v o ks rs) i (inr (inr m)) = let r = makes-kids rs i m in (r.0, r.1, inr (inr r.2))

  pub unused-not : (w : Draft F) (i j : ℕ) → IsUnused w j → IsFor w i (Some j) → ⊥
  unused-not (taken s) i j u h = h
  unused-not (made id v o ks rs) i j u (inl h) = u.0 h.1
  unused-not (made id v o ks rs) i j u (inr (inl h)) = unused-not ks i j u.1 h
  unused-not (made id v o ks rs) i j u (inr (inr h)) = unused-not rs i j u.2 h

  -- the old fiber that the search finds
  pub old_of-absent : (w : Draft F) (i : ℕ) → (Makes w i → ⊥) → old_of w i ≡ None
  old_of-absent (taken s) i n = refl
  old_of-absent (made id v o ks rs) i n =
      rw (eqb-false id i (λ e. n (inl (sym e))), old_of-absent ks i (λ m. n (inr (inl m))), old_of-absent rs i (λ m. n (inr (inr m)))) refl

  pub old_of-is : (w : Draft F) (i : ℕ) (o : Option ℕ) → IsMadeOnce w → IsFor w i o → old_of w i ≡ o
  old_of-is (taken s) i o m h = absurd h
  old_of-is (made id v old ks rs) i o m (inl h) = rw (eq-eqb id i (sym h.0)) h.1
  old_of-is (made id v old ks rs) i o m (inr (inl h)) =
      let k = for-makes ks i o h in
      rw (eqb-false id i (λ e. m.0 (rw e k)), old_of-absent rs i (λ n. m.2 i k n), old_of-is ks i o m.3 h) (or-none o)
  old_of-is (made id v old ks rs) i o m (inr (inr h)) =
      let k = for-makes rs i o h in
      rw (eqb-false id i (λ e. m.1 (rw e k)), old_of-absent ks i (λ n. m.2 i n k), old_of-is rs i o m.4 h) refl

  pub kids_for-for : (w : Draft F) (i : ℕ) (o : Option ℕ) (ks : Draft F) → KidsFor w i o ks → IsFor w i o
  kids_for-for (taken s) i o ks h = h
  kids_for-for (made id v old ls rs) i o ks (inl h) = inl (h.0, h.1)
  kids_for-for (made id v old ls rs) i o ks (inr (inl h)) = inr (inl (kids_for-for ls i o ks h))
  kids_for-for (made id v old ls rs) i o ks (inr (inr h)) = inr (inr (kids_for-for rs i o ks h))

  -- the children that the search finds in the current tree
  pub has-here : (c : Shape F) (j : ℕ) (k : Shape F) → HasKids c j k → Holds c j
  has-here none j k h = h
  has-here (fiber id v ks rs) j k (inl h) = inl (sym h.0)
  has-here (fiber id v ks rs) j k (inr (inl h)) = inr (inl (has-here ks j k h))
  has-here (fiber id v ks rs) j k (inr (inr h)) = inr (inr (has-here rs j k h))

  pub has-held : (c : Shape F) (j : ℕ) (k : Shape F) (i : ℕ) → HasKids c j k → Holds k i → Holds c i
  has-held none j k i h m = h
  has-held (fiber id v ks rs) j k i (inl h) m = inr (inl (rw h.1 m))
  has-held (fiber id v ks rs) j k i (inr (inl h)) m = inr (inl (has-held ks j k i h m))
  has-held (fiber id v ks rs) j k i (inr (inr h)) m = inr (inr (has-held rs j k i h m))

  pub kids_at-absent : (c : Shape F) (j : ℕ) → (Holds c j → ⊥) → kids_at c j ≡ None
  kids_at-absent none j n = refl
  kids_at-absent (fiber id v ks rs) j n =
      rw (eqb-false id j (λ e. n (inl (sym e))), kids_at-absent ks j (λ m. n (inr (inl m))), kids_at-absent rs j (λ m. n (inr (inr m)))) refl

  pub kids_at-is : (c : Shape F) (j : ℕ) (k : Shape F) → IsTree c → HasKids c j k → kids_at c j ≡ Some k
  kids_at-is none j k t h = absurd h
  kids_at-is (fiber id v ks rs) j k t (inl h) = rw (eq-eqb id j h.0) (ap Some h.1)
  kids_at-is (fiber id v ks rs) j k t (inr (inl h)) =
      rw (eqb-false id j (λ e. t.0 (rw e (has-here ks j k h))), kids_at-is ks j k t.3 h) refl
  kids_at-is (fiber id v ks rs) j k t (inr (inr h)) =
      rw (
        eqb-false id j (λ e. t.1 (rw e (has-here rs j k h))),
        kids_at-absent ks j (λ m. t.2 j m (has-here rs j k h)),
        kids_at-is rs j k t.4 h,
      )
      refl

  -- somewhere in the tree the old fiber has these children: none if there is no old fiber
  abbrev pub IsOldAny : Shape F → Option ℕ → Shape F → Type 0
  IsOldAny c None k = k ≡ none
  IsOldAny c (Some j) k = HasKids c j k

  pub kids_under-is : (c : Shape F) (o : Option ℕ) (k : Shape F) → IsTree c → IsOldAny c o k → kids_under c o ≡ k
  kids_under-is c None k t h = sym h
  kids_under-is c (Some j) k t h = ap shape_or_none (kids_at-is c j k t h)

  pub top-any : (c : Shape F) (o : Option ℕ) (k : Shape F) → IsOldKids c o k → IsOldAny c o k
  top-any c None k h = h
  top-any none (Some j) k h = h
  top-any (fiber id v ks rs) (Some j) k (inl h) = inl h
  top-any (fiber id v ks rs) (Some j) k (inr h) = inr (inr (top-any rs (Some j) k h))

  any-top : (c : Shape F) (j l : ℕ) (k m : Shape F) → HasTop c j k → HasKids k l m → HasKids c l m
  any-top none j l k m h a = absurd h
  any-top (fiber id v ks rs) j l k m (inl h) a = inr (inl (rw h.1 a))
  any-top (fiber id v ks rs) j l k m (inr h) a = inr (inr (any-top rs j l k m h a))

  pub any-below : (c : Shape F) (o q : Option ℕ) (k m : Shape F) → IsOldKids c o k → IsOldAny k q m → IsOldAny c q m
  any-below c o None k m h a = a
  any-below c None (Some l) k m h a = absurd (no-kids k l m h a)
    where
      no-kids : (k : Shape F) (l : ℕ) (m : Shape F) → k ≡ none → HasKids k l m → ⊥
      no-kids none l m e h = h
      no-kids (fiber id v ks rs) l m e h = cc
  any-below c (Some j) (Some l) k m h a = any-top c j l k m h a

  -- a fiber of the list itself has some children
  pub top-kids : (c : Shape F) (j : ℕ) → IsTop c j → (k : Shape F) × HasTop c j k
  top-kids none j h = absurd h
  top-kids (fiber id v ks rs) j (inl e) = (ks, inl (e, refl))
  top-kids (fiber id v ks rs) j (inr h) = let r = top-kids rs j h in (r.0, inr r.1)

  pub top-holds : (c : Shape F) (j : ℕ) → IsTop c j → Holds c j
  top-holds none j h = h
  top-holds (fiber id v ks rs) j (inl e) = inl (sym e)
  top-holds (fiber id v ks rs) j (inr h) = inr (inr (top-holds rs j h))

  module _ (p : ℕ) (f : Draft F → Draft F) where
    pub rekidded-absent : (w : Draft F) → (Makes w p → ⊥) → rekidded p f w ≡ w
    rekidded-absent (taken s) n = refl
    rekidded-absent (made id v o ks rs) n =
        rw (
          eqb-false id p (λ e. n (inl (sym e))),
          rekidded-absent ks (λ m. n (inr (inl m))),
          rekidded-absent rs (λ m. n (inr (inr m))),
        )
        refl

    -- what is made at other ids stays made
    pub keeps-for : (w : Draft F) (i : ℕ) (q : Option ℕ)
        → ((o : Option ℕ) (ks : Draft F) → KidsFor w p o ks → IsFor ks i q → IsFor (f ks) i q) → IsFor w i q → IsFor (rekidded p f w) i q
    keeps-for (taken s) i q h k = k
    keeps-for (made id v o ks rs) i q h (inl k) = inl k
    keeps-for (made id v o ks rs) i q h (inr (inr k)) = inr (inr (keeps-for rs i q (λ o2 ls m. h o2 ls (inr (inr m))) k))
    keeps-for (made id v o ks rs) i q h (inr (inl k)) =
        inr (inl (by_test (eqb id p) refl (keeps-for ks i q (λ o2 ls m. h o2 ls (inr (inl m))) k)))
      where
        by_test : (b : Bool) → eqb id p ≡ b → IsFor (rekidded p f ks) i q → IsFor (cond b (f ks) (rekidded p f ks)) i q
        by_test true e r = h o ks (inl (sym (eqb-true id p e), refl, refl)) k
        by_test false e r = r

    -- what is new is made, if there is a place for it
    pub news-for : (w : Draft F) (x : ℕ) (y : Option ℕ) → ((ks : Draft F) → IsFor (f ks) x y) → Makes w p → IsFor (rekidded p f w) x y
    news-for (taken s) x y h m = absurd m
    news-for (made id v o ks rs) x y h (inl e) = inr (inl (rw (eq-eqb id p (sym e)) (h ks)))
    news-for (made id v o ks rs) x y h (inr (inr m)) = inr (inr (news-for rs x y h m))
    news-for (made id v o ks rs) x y h (inr (inl m)) = inr (inl (by_test (eqb id p) (news-for ks x y h m)))
      where
        by_test : (b : Bool) → IsFor (rekidded p f ks) x y → IsFor (cond b (f ks) (rekidded p f ks)) x y
        by_test true r = h ks
        by_test false r = r

    module _ (x : ℕ) (y : Option ℕ) (only : (ks : Draft F) (i : ℕ) (q : Option ℕ) → IsFor (f ks) i q → IsFor ks i q ⊎ ((i ≡ x) × (q ≡ y))) where
      pub IsFor-rekidded : (w : Draft F) (i : ℕ) (q : Option ℕ) → IsFor (rekidded p f w) i q → IsFor w i q ⊎ ((i ≡ x) × (q ≡ y) × Makes w p)
      IsFor-rekidded (taken s) i q h = absurd h
      IsFor-rekidded (made id v o ks rs) i q (inl h) = inl (inl h)
      IsFor-rekidded (made id v o ks rs) i q (inr (inr h)) =
          elim (IsFor-rekidded rs i q h) [ inl m ↦ inl (inr (inr m)) | inr m ↦ inr (m.0, m.1, inr (inr m.2)) ]
      IsFor-rekidded (made id v o ks rs) i q (inr (inl h)) = by_test (eqb id p) refl (IsFor-rekidded ks i q) h
        where
          by_test : (b : Bool) → eqb id p ≡ b → (IsFor (rekidded p f ks) i q → IsFor ks i q ⊎ ((i ≡ x) × (q ≡ y) × Makes ks p))
              → IsFor (cond b (f ks) (rekidded p f ks)) i q
              → IsFor (made id v o ks rs) i q ⊎ ((i ≡ x) × (q ≡ y) × Makes (made id v o ks rs) p)
          by_test true e ih k = elim (only ks i q k) [ inl m ↦ inl (inr (inl m)) | inr m ↦ inr (m.0, m.1, inl (sym (eqb-true id p e))) ]
          by_test false e ih k = elim (ih k) [ inl m ↦ inl (inr (inl m)) | inr m ↦ inr (m.0, m.1, inr (inl m.2)) ]

      pub Makes-rekidded : (w : Draft F) (i : ℕ) → Makes (rekidded p f w) i → Makes w i ⊎ ((i ≡ x) × Makes w p)
      Makes-rekidded w i m =
          let r = makes-for (rekidded p f w) i m in
          elim (IsFor-rekidded w i r.0 r.1) [ inl k ↦ inl (for-makes w i r.0 k) | inr k ↦ inr (k.0, k.2) ]

      module _ (once : (ks : Draft F) → IsMadeOnce ks → (Makes ks x → ⊥) → IsMadeOnce (f ks)) where
        pub made_once-rekidded : (w : Draft F) → IsMadeOnce w → (Makes w x → ⊥) → IsMadeOnce (rekidded p f w)
        made_once-rekidded (taken s) h n = tt
        made_once-rekidded (made id v o ks rs) h n =
            by_test (eqb id p) refl
            (made_once-rekidded ks h.3 (λ m. n (inr (inl m))))
            (made_once-rekidded rs h.4 (λ m. n (inr (inr m))))
          where
            not_rs : (i : ℕ) → (Makes rs i → ⊥) → (i ≢ x) → Makes (rekidded p f rs) i → ⊥
            not_rs i a b m = elim (Makes-rekidded rs i m) [ inl q ↦ a q | inr q ↦ b q.0 ]

            not_ks : (i : ℕ) → (Makes ks i → ⊥) → (i ≢ x) → Makes (rekidded p f ks) i → ⊥
            not_ks i a b m = elim (Makes-rekidded ks i m) [ inl q ↦ a q | inr q ↦ b q.0 ]

            not_x : id ≢ x
            not_x e = n (inl (sym e))

            made_f : (i : ℕ) → Makes (f ks) i → Makes ks i ⊎ (i ≡ x)
            made_f i m =
                let r = makes-for (f ks) i m in
                elim (only ks i r.0 r.1) [ inl k ↦ inl (for-makes ks i r.0 k) | inr k ↦ inr k.0 ]

            by_test : (b : Bool) → eqb id p ≡ b → IsMadeOnce (rekidded p f ks) → IsMadeOnce (rekidded p f rs)
                → IsMadeOnce (made id v o (cond b (f ks) (rekidded p f ks)) (rekidded p f rs))
            by_test false e one two = (
              not_ks id h.0 not_x,
              not_rs id h.1 not_x,
              λ i a b. elim (Makes-rekidded ks i a) [
                | inl q ↦ elim (Makes-rekidded rs i b) [ inl r ↦ h.2 i q r | inr r ↦ n (inr (inl (rw (← r.0) q))) ]
                | inr q ↦ elim (Makes-rekidded rs i b) [ inl r ↦ n (inr (inr (rw (← q.0) r))) | inr r ↦ h.2 p q.1 r.1 ]
              ],
              one,
              two,
            )
            by_test true e one two =
                let same = eqb-true id p e in (
                  λ m. elim (made_f id m) [ inl q ↦ h.0 q | inr q ↦ not_x q ],
                  not_rs id h.1 not_x,
                  λ i a b. elim (made_f i a) [
                    | inl q ↦ elim (Makes-rekidded rs i b) [ inl r ↦ h.2 i q r | inr r ↦ h.1 (rw same r.1) ]
                    | inr q ↦ elim (Makes-rekidded rs i b) [ inl r ↦ n (inr (inr (rw (← q) r))) | inr r ↦ h.1 (rw same r.1) ]
                  ],
                  once ks h.3 (λ m. n (inr (inl m))),
                  two,
                )

    -- the changed draft follows the current tree, if the changed children follow the old ones
    pub follows-rekidded : (c : Shape F) (w : Draft F)
        → ((o : Option ℕ) (ks : Draft F) (k : Shape F) → KidsFor w p o ks → IsOldAny c o k → (ks ≡ taken k) ⊎ Follows k ks → (f ks ≡ taken k) ⊎ Follows k (f ks))
        → Follows c w → Follows c (rekidded p f w)
    follows-rekidded c (taken s) h q = q
    follows-rekidded c (made id v o ks rs) h q = (
      (q.0.0, q.0.1, by_test (eqb id p) refl (λ g. follows-rekidded q.0.0 ks (λ o2 ls k m a. h o2 ls k (inr (inl m)) (any-below c o o2 q.0.0 k q.0.1 a)) g)),
      follows-rekidded c rs (λ o2 ls k m a. h o2 ls k (inr (inr m)) (any-later o2 k a)) q.1,
    )
      where
        any-later : (o2 : Option ℕ) (k : Shape F) → IsOldAny c o2 k → IsOldAny c o2 k
        any-later o2 k a = a

        by_test : (b : Bool) → eqb id p ≡ b → (Follows q.0.0 ks → Follows q.0.0 (rekidded p f ks))
            → (cond b (f ks) (rekidded p f ks) ≡ taken q.0.0) ⊎ Follows q.0.0 (cond b (f ks) (rekidded p f ks))
        by_test true e ih = h o ks q.0.0 (inl (sym (eqb-true id p e), refl, refl)) (top-any c o q.0.0 q.0.1) q.0.2
        by_test false e ih = elim q.0.2 [ inl t ↦ inl (ap (rekidded p f) t) | inr g ↦ inr (ih g) ]
