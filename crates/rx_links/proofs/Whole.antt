-- The tree that a draft leaves is a tree again.
use Rattle.std.proofs.Common.{◌≡◌, ℕ, ◌⊎◌, inl, inr, sym, ◌∙◌, refl, Some, None, Option}
use Rattle.rx_lists.specs.Shapes.{Shape, none, fiber, Holds, IsTree}
use Rattle.rx_links.specs.Drafts.{Draft, taken, made, Makes, IsMadeOnce, IsFor, grafted, HasTop, IsOldKids, Follows, IsForOne}
use Rattle.rx_links.proofs.Parts.{Takes, MakesTop}

module _ {F : Type 0} where
  pub top-held : (c : Shape F) (j : ℕ) (k : Shape F) (i : ℕ) → HasTop c j k → Holds k i → Holds c i
  top-held none j k i h p = absurd h
  top-held (fiber id v ks rs) j k i (inl h) p = inr (inl (rw h.1 p))
  top-held (fiber id v ks rs) j k i (inr h) p = inr (inr (top-held rs j k i h p))

  pub top-tree : (c : Shape F) (j : ℕ) (k : Shape F) → IsTree c → HasTop c j k → IsTree k
  top-tree none j k t h = absurd h
  top-tree (fiber id v ks rs) j k t (inl h) = rw (← h.1) t.3
  top-tree (fiber id v ks rs) j k t (inr h) = top-tree rs j k t.4 h

  pub top-here : (c : Shape F) (j : ℕ) (k : Shape F) → HasTop c j k → Holds c j
  top-here none j k h = absurd h
  top-here (fiber id v ks rs) j k (inl h) = inl (sym h.0)
  top-here (fiber id v ks rs) j k (inr h) = inr (inr (top-here rs j k h))

  -- what an old fiber has as children is in the list
  pub old-held : (c : Shape F) (o : Option ℕ) (k : Shape F) (i : ℕ) → IsOldKids c o k → Holds k i → Holds c i
  old-held c None k i h p = absurd (rw h at p)
  old-held c (Some j) k i h p = top-held c j k i h p

  pub old-tree : (c : Shape F) (o : Option ℕ) (k : Shape F) → IsTree c → IsOldKids c o k → IsTree k
  old-tree c None k t h = rw h tt
  old-tree c (Some j) k t h = top-tree c j k t h

  -- two fibers of a list with one id below both are one
  pub tops-one : (c : Shape F) (j l : ℕ) (k m : Shape F) (i : ℕ) → IsTree c → HasTop c j k → HasTop c l m → Holds k i → Holds m i → j ≡ l
  tops-one none j l k m i t h g p q = absurd h
  tops-one (fiber id v ks rs) j l k m i t (inl h) (inl g) p q = sym h.0 ∙ g.0
  tops-one (fiber id v ks rs) j l k m i t (inl h) (inr g) p q = absurd (t.2 i (rw h.1 p) (top-held rs l m i g q))
  tops-one (fiber id v ks rs) j l k m i t (inr h) (inl g) p q = absurd (t.2 i (rw g.1 q) (top-held rs j k i h p))
  tops-one (fiber id v ks rs) j l k m i t (inr h) (inr g) p q = tops-one rs j l k m i t.4 h g p q

  no-top : (c : Shape F) (j : ℕ) (k : Shape F) → c ≡ none → HasTop c j k → ⊥
  no-top none j k e h = h
  no-top (fiber id v ks rs) j k e h = cc

  -- what is taken over is below the old fiber of a made one of the list
  pub record TakenBelow (c : Shape F) (w : Draft F) (i : ℕ) : Type 0 where
    pub by : ℕ
    pub from : ℕ
    pub kids : Shape F
    pub top : MakesTop w by
    pub old_is : IsFor w by (Some from)
    pub has : HasTop c from kids
    pub held : Holds kids i

  pub kids-taken : (c : Shape F) (w : Draft F) (i : ℕ) → Follows c w → Takes w i → TakenBelow c w i
  kids-taken c (taken s) i f t = absurd (rw f at t)
  kids-taken c (made id v o ks rs) i f (inr t) =
      let r = kids-taken c rs i f.1 t in
      record { by = r.by; from = r.from; kids = r.kids; top = inr r.top; old_is = inr (inr r.old_is); has = r.has; held = r.held }
  kids-taken c (made id v None ks rs) i f (inl t) =
      elim f.0.2 [
        | inl e ↦ absurd (rw (e, f.0.1) at t)
        | inr g ↦ absurd (let r = kids-taken f.0.0 ks i g t in no-top f.0.0 r.from r.kids f.0.1 r.has)
      ]
  kids-taken c (made id v (Some j) ks rs) i f (inl t) =
      record {
        by = id;
        from = j;
        kids = f.0.0;
        top = inl refl;
        old_is = inl (refl, refl);
        has = f.0.1;
        held = elim f.0.2 [ inl e ↦ rw e at t | inr g ↦ let r = kids-taken f.0.0 ks i g t in top-held f.0.0 r.from r.kids i r.has r.held ];
      }

  pub takes-held : (c : Shape F) (w : Draft F) (i : ℕ) → Follows c w → Takes w i → Holds c i
  takes-held c w i f t = let r = kids-taken c w i f t in top-held c r.from r.kids i r.has r.held

  pub top-makes : (w : Draft F) (i : ℕ) → MakesTop w i → Makes w i
  top-makes (taken s) i h = absurd h
  top-makes (made id v o ks rs) i (inl e) = inl e
  top-makes (made id v o ks rs) i (inr h) = inr (inr (top-makes rs i h))

  pub for-makes : (w : Draft F) (i : ℕ) (o : Option ℕ) → IsFor w i o → Makes w i
  for-makes (taken s) i o h = absurd h
  for-makes (made id v old ks rs) i o (inl h) = inl h.0
  for-makes (made id v old ks rs) i o (inr (inl h)) = inr (inl (for-makes ks i o h))
  for-makes (made id v old ks rs) i o (inr (inr h)) = inr (inr (for-makes rs i o h))

  -- a fiber is made for a current one
  pub for-held : (c : Shape F) (w : Draft F) (i j : ℕ) → Follows c w → IsFor w i (Some j) → Holds c j
  for-held c (taken s) i j f h = absurd h
  for-held c (made id v o ks rs) i j f (inl h) = top-here c j f.0.0 (rw h.1 at f.0.1)
  for-held c (made id v o ks rs) i j f (inr (inr h)) = for-held c rs i j f.1 h
  for-held c (made id v o ks rs) i j f (inr (inl h)) =
      elim f.0.2 [
        | inl e ↦ absurd (rw e at h)
        | inr g ↦ old-held c o f.0.0 j f.0.1 (for-held f.0.0 ks i j g h)
      ]

  pub holds-cases : (w : Draft F) (i : ℕ) → Holds (grafted w) i → Makes w i ⊎ Takes w i
  holds-cases (taken s) i h = inr h
  holds-cases (made id v o ks rs) i (inl e) = inl (inl e)
  holds-cases (made id v o ks rs) i (inr (inl h)) = elim (holds-cases ks i h) [ inl m ↦ inl (inr (inl m)) | inr t ↦ inr (inl t) ]
  holds-cases (made id v o ks rs) i (inr (inr h)) = elim (holds-cases rs i h) [ inl m ↦ inl (inr (inr m)) | inr t ↦ inr (inr t) ]

  pub makes-grafted : (w : Draft F) (i : ℕ) → Makes w i → Holds (grafted w) i
  makes-grafted (taken s) i m = absurd m
  makes-grafted (made id v o ks rs) i (inl e) = inl e
  makes-grafted (made id v o ks rs) i (inr (inl m)) = inr (inl (makes-grafted ks i m))
  makes-grafted (made id v o ks rs) i (inr (inr m)) = inr (inr (makes-grafted rs i m))

  pub takes-grafted : (w : Draft F) (i : ℕ) → Takes w i → Holds (grafted w) i
  takes-grafted (taken s) i t = t
  takes-grafted (made id v o ks rs) i (inl t) = inr (inl (takes-grafted ks i t))
  takes-grafted (made id v o ks rs) i (inr t) = inr (inr (takes-grafted rs i t))

  -- a draft that follows a tree leaves a tree
  pub grafted-tree : (c : Shape F) (w : Draft F) → IsForOne w → IsTree c → Follows c w → IsMadeOnce w → ((i : ℕ) → Holds c i → Makes w i → ⊥)
      → IsTree (grafted w)
  grafted-tree c (taken s) one t f m apart_ = rw f tt
  grafted-tree c (made id v o ks rs) one t f m apart_ = (
    λ h. elim (holds-cases ks id h) [ inl p ↦ m.0 p | inr q ↦ apart_ id (takes-held c (made id v o ks rs) id f (inl q)) (inl refl) ],
    λ h. elim (holds-cases rs id h) [ inl p ↦ m.1 p | inr q ↦ apart_ id (takes-held c (made id v o ks rs) id f (inr q)) (inl refl) ],
    λ i a b. both i (holds-cases ks i a) (holds-cases rs i b),
    elim f.0.2 [
      | inl e ↦ rw e (old-tree c o f.0.0 t f.0.1)
      | inr g ↦ grafted-tree f.0.0 ks (λ a b j p q. one a b j (inr (inl p)) (inr (inl q))) (old-tree c o f.0.0 t f.0.1) g m.3
          (λ i p q. apart_ i (old-held c o f.0.0 i f.0.1 p) (inr (inl q)))
    ],
    grafted-tree c rs (λ a b j p q. one a b j (inr (inr p)) (inr (inr q))) t f.1 m.4 (λ i p q. apart_ i p (inr (inr q))),
  )
    where
      both : (i : ℕ) → Makes ks i ⊎ Takes ks i → Makes rs i ⊎ Takes rs i → ⊥
      both i (inl p) (inl q) = m.2 i p q
      both i (inl p) (inr q) = apart_ i (takes-held c (made id v o ks rs) i f (inr q)) (inr (inl p))
      both i (inr p) (inl q) = apart_ i (takes-held c (made id v o ks rs) i f (inl p)) (inr (inr q))
      both i (inr p) (inr q) =
          let r = kids-taken c rs i f.1 q in
          let b = kids-taken c (made id v o ks (taken none)) i (f.0, refl) (inl p) in
          let same = tops-one c b.from r.from b.kids r.kids i t b.has r.has b.held r.held in
          let mine : b.by ≡ id = elim b.top [ inl e ↦ e | inr z ↦ absurd z ] in
          let old : IsFor (made id v o ks rs) id (Some b.from) =
          elim b.old_is [
            | inl x ↦ inl (refl, x.1)
            | inr x ↦ elim x [ inl y ↦ absurd (m.0 (rw mine at (for-makes ks b.by (Some b.from) y))) | inr y ↦ absurd y ]
          ] in
          m.1 (rw (one id r.by b.from old (inr (inr (rw (← same) at r.old_is)))) (top-makes rs r.by r.top))
