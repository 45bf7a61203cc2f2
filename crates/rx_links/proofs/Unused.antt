-- The old children of a fiber that has no children yet are unused.
use Rattle.std.proofs.Common.{◌≡◌, ◌⊎◌, inl, inr, ℕ, refl, sym, ap, ◌∙◌, Some, None, Option}
use Rattle.rx_lists.specs.Shapes.{Shape, none, fiber, Holds, IsTree, IsTop}
use Rattle.rx_links.specs.Drafts.{Draft, taken, made, Trees, IsFor, IsUnused, IsBare, old_kids, kids_under, IsOldKids, Follows, Fits, IsTopUnused, HasMadeKids}
use Rattle.rx_links.proofs.Parts.{HasKids}
use Rattle.rx_links.proofs.Edits.{KidsFor, kids_for-for, kids-all, has-makes, makes-kids, old_of-is, IsOldAny, kids_under-is, top-any, any-below, has-held, top-holds}
use Rattle.rx_links.proofs.Writes.{for-any}

module _ {F : Type 0} where
  -- a fiber of a list itself is nowhere below
  top-not-kid : (c : Shape F) (j a : ℕ) (k : Shape F) → IsTree c → IsTop c j → HasKids c a k → Holds k j → ⊥
  top-not-kid none j a k t h q m = h
  top-not-kid (fiber id v ks rs) j a k t (inl e) (inl q) m = t.0 (rw (e, q.1) m)
  top-not-kid (fiber id v ks rs) j a k t (inl e) (inr (inl q)) m = t.0 (rw e (has-held ks a k j q m))
  top-not-kid (fiber id v ks rs) j a k t (inl e) (inr (inr q)) m = t.1 (rw e (has-held rs a k j q m))
  top-not-kid (fiber id v ks rs) j a k t (inr h) (inl q) m = t.2 j (rw q.1 m) (top-holds rs j h)
  top-not-kid (fiber id v ks rs) j a k t (inr h) (inr (inl q)) m = t.2 j (has-held ks a k j q m) (top-holds rs j h)
  top-not-kid (fiber id v ks rs) j a k t (inr h) (inr (inr q)) m = top-not-kid rs j a k t.4 h q m

  -- a fiber is the child of one
  one-parent : (c : Shape F) (j a b : ℕ) (k l : Shape F) → IsTree c → HasKids c a k → HasKids c b l → IsTop k j → IsTop l j → a ≡ b
  one-parent none j a b k l t p q x y = absurd p
  one-parent (fiber id v ks rs) j a b k l t (inl p) (inl q) x y = sym p.0 ∙ q.0
  one-parent (fiber id v ks rs) j a b k l t (inl p) (inr (inl q)) x y = absurd (top-not-kid ks j b l t.3 (rw p.1 x) q (top-holds l j y))
  one-parent (fiber id v ks rs) j a b k l t (inl p) (inr (inr q)) x y = absurd (t.2 j (rw p.1 (top-holds k j x)) (has-held rs b l j q (top-holds l j y)))
  one-parent (fiber id v ks rs) j a b k l t (inr (inl p)) (inl q) x y = absurd (top-not-kid ks j a k t.3 (rw q.1 y) p (top-holds k j x))
  one-parent (fiber id v ks rs) j a b k l t (inr (inl p)) (inr (inl q)) x y = one-parent ks j a b k l t.3 p q x y
  one-parent (fiber id v ks rs) j a b k l t (inr (inl p)) (inr (inr q)) x y =
      absurd (t.2 j (has-held ks a k j p (top-holds k j x)) (has-held rs b l j q (top-holds l j y)))
  one-parent (fiber id v ks rs) j a b k l t (inr (inr p)) (inl q) x y = absurd (t.2 j (rw q.1 (top-holds l j y)) (has-held rs a k j p (top-holds k j x)))
  one-parent (fiber id v ks rs) j a b k l t (inr (inr p)) (inr (inl q)) x y =
      absurd (t.2 j (has-held ks b l j q (top-holds l j y)) (has-held rs a k j p (top-holds k j x)))
  one-parent (fiber id v ks rs) j a b k l t (inr (inr p)) (inr (inr q)) x y = one-parent rs j a b k l t.4 p q x y

  -- the made fiber below which one for j was made
  record MadeUnder (c : Shape F) (w : Draft F) (i j : ℕ) : Type 0 where
    by : ℕ
    from : ℕ
    old : Shape F
    kids : Draft F
    mine : KidsFor w by (Some from) kids
    has : HasKids c from old
    top : IsTop old j
    uses : IsTopUnused kids j → ⊥

  tops : (c : Shape F) (j : ℕ) (k : Shape F) → IsOldKids c (Some j) k → IsTop c j
  tops none j k h = h
  tops (fiber id v ks rs) j k (inl h) = inl h.0
  tops (fiber id v ks rs) j k (inr h) = inr (tops rs j k h)

  top-none : (k : Shape F) (j : ℕ) → k ≡ none → IsTop k j → ⊥
  top-none none j e h = h
  top-none (fiber id v ks rs) j e h = cc

  -- a current fiber that one was made for is of the old list, and one of the list itself was made for it; or both are below
  made-under : (c : Shape F) (w : Draft F) (i j : ℕ) → Follows c w → IsFor w i (Some j) → (IsTop c j × (IsTopUnused w j → ⊥)) ⊎ MadeUnder c w i j
  made-under c (taken s) i j f h = absurd h
  made-under c (made id v o ks rs) i j f (inl h) = inl (tops c j f.0.0 (rw h.1 at f.0.1), λ u. u.0 h.1)
  made-under c (made id v o ks rs) i j f (inr (inr h)) =
      elim (made-under c rs i j f.1 h) [
        | inl x ↦ inl (x.0, λ u. x.1 u.1)
        | inr r ↦ inr (record { by = r.by; from = r.from; old = r.old; kids = r.kids; mine = inr (inr r.mine); has = r.has; top = r.top; uses = r.uses })
      ]
  made-under c (made id v o ks rs) i j f (inr (inl h)) =
      elim f.0.2 [
        | inl e ↦ absurd (rw e at h)
        | inr g ↦ elim (made-under f.0.0 ks i j g h) [
          | inl x ↦ inr (here o refl f.0.1 x.0 x.1)
          | inr r ↦ inr (record {
            by = r.by;
            from = r.from;
            old = r.old;
            kids = r.kids;
            mine = inr (inl r.mine);
            has = let q = r.has in any-below c o (Some r.from) f.0.0 r.old f.0.1 q;
            top = r.top;
            uses = r.uses;
          })
        ]
      ]
    where
      here : (x : Option ℕ) → o ≡ x → IsOldKids c x f.0.0 → IsTop f.0.0 j → (IsTopUnused ks j → ⊥) → MadeUnder c (made id v o ks rs) i j
      here None e y z u = absurd (top-none f.0.0 j y z)
      here (Some l) e y z u = record {
        by = id;
        from = l;
        old = f.0.0;
        kids = ks;
        mine = inl (refl, e, refl);
        has = top-any c (Some l) f.0.0 y;
        top = z;
        uses = u;
      }

  not-unused : (w : Draft F) (j : ℕ) → ((i : ℕ) → IsFor w i (Some j) → ⊥) → IsUnused w j
  not-unused (taken s) j n = tt
  not-unused (made id v o ks rs) j n =
      (λ e. n id (inl (refl, e)), not-unused ks j (λ i m. n i (inr (inl m))), not-unused rs j (λ i m. n i (inr (inr m))))

  -- if none of the children of a made fiber is for a child of its old one, no fiber is
  pub kid-unused : (t : Trees F) (p j : ℕ) → Fits t → HasMadeKids (λ ks. IsTopUnused ks j) t.draft p → IsTop (old_kids t p) j → IsUnused t.draft j
  kid-unused t p j f free_ top_ = not-unused t.draft j (λ i m. clash i m)
    where
      clash : (i : ℕ) → IsFor t.draft i (Some j) → ⊥
      clash i m =
          let k = makes-kids t.draft p (has-makes (λ ks. IsTopUnused ks j) t.draft p free_) in
          let a = for-any t.current t.draft p k.0 k.1 f.follows k.2 in
          let same : old_kids t p ≡ a.0 =
          ap (kids_under t.current) (old_of-is t.draft p k.0 f.made_once (kids_for-for t.draft p k.0 k.1 k.2)) ∙ kids_under-is t.current k.0 a.0 f.once a.1 in
          by_old k.0 k.1 k.2 a.0 a.1 (rw same at top_)
        where
          by_old : (o : Option ℕ) (ks : Draft F) → KidsFor t.draft p o ks → (l : Shape F) → IsOldAny t.current o l → IsTop l j → ⊥
          by_old None ks kf l y z = top-none l j y z
          by_old (Some jp) ks kf l y z =
              elim (made-under t.current t.draft i j f.follows m) [
                | inl x ↦ top-not-kid t.current j jp l f.once x.0 y (top-holds l j z)
                | inr r ↦
                    let e = one-parent t.current j r.from jp r.old l f.once r.has y r.top z in
                    let q = r.mine in
                    let u : r.by ≡ p = f.for_one r.by p jp (rw e at (kids_for-for t.draft r.by (Some r.from) r.kids q)) (kids_for-for t.draft p (Some jp) ks kf) in
                    let v = kids-all (λ x. IsTopUnused x j) t.draft p f.made_once free_ (Some r.from) r.kids (rw u at q) in
                    r.uses v
              ]

  bare-free : (w : Draft F) (p j : ℕ) → IsBare w p → HasMadeKids (λ ks. IsTopUnused ks j) w p
  bare-free (taken s) p j h = h
  bare-free (made id v o ks rs) p j (inl h) = inl (h.0, rw h.1 tt)
  bare-free (made id v o ks rs) p j (inr (inl h)) = inr (inl (bare-free ks p j h))
  bare-free (made id v o ks rs) p j (inr (inr h)) = inr (inr (bare-free rs p j h))

  -- if a made fiber has no children yet, none is made for a child of its old one
  pub bare-unused : (t : Trees F) (p j : ℕ) → Fits t → IsBare t.draft p → IsTop (old_kids t p) j → IsUnused t.draft j
  bare-unused t p j f b top_ = kid-unused t p j f (bare-free t.draft p j b) top_
