-- A made fiber right behind another.
use Rattle.std.proofs.Common.{Bool, true, false, eqb, cond, ◌≡◌, ◌≢◌, ◌<◌, ◌+◌, ◌^◌, ◌⊎◌, inl, inr, ℕ, refl, sym, ap, ◌∙◌, IsSome, Some, None, Option, IfSome, option_map, eq-eqb, eqb-true, arith}
use Rattle.slab.specs.Slab.{slab_len}
use Rattle.rx_arena.specs.Nodes.{at, alternate_in, with_sibling, with_alternate}
use Rattle.rx_arena.specs.declared.arena.Node.{Node}
use Rattle.rx_lists.specs.Changes.{Inserts, sibling_node}
use Rattle.rx_lists.specs.Reads.{Nodes, core_of, core_at, up_in, up_at, alternate_at, node, limit}
use Rattle.rx_lists.specs.Shapes.{Shape, none, Holds, IsTop}
use Rattle.rx_lists.proofs.Frames.{same_or_not, eqb-false, some-at, if-some, leads_or_not, Reads-frame, Returns-frame}
use Rattle.rx_links.specs.Drafts.{Draft, taken, made, Trees, or_else, entry, Makes, IsMadeOnce, IsFor, IsUnused, inserted, old_kids, IsOldKids, Follows}
use Rattle.rx_links.specs.Readers.{made_parent_in, list_under, old_list}
use Rattle.rx_links.specs.Stands.{Drafts, Roots, Shows}
use Rattle.rx_links.proofs.Computed.{held-live, made-live}
use Rattle.rx_links.proofs.DraftFrames.{Drafts-frame}
use Rattle.rx_links.proofs.Edits.{KidsFor, makes-for, unused-not, IsOldAny, any-below, top-any, top-kids, top-holds}
use Rattle.rx_links.proofs.Reading.{made_parent-absent}
use Rattle.rx_links.proofs.Whole.{for-held, for-makes, old-held}
use Rattle.rx_links.proofs.Writes.{old_kids-are, core-alternate, up-alternate, alternate-alternate}

module _ {F : Type 0} where
  -- the list of a made fiber was made beside this current one
  abbrev IsBeside : Shape F → Draft F → ℕ → Shape F → Type 0
  IsBeside c (taken s) p l = ⊥
  IsBeside c (made jd u r ks rs) p l =
      ((p ≡ jd) × (l ≡ c)) ⊎ (((k : Shape F) × IsOldKids c r k × IsBeside k ks p l) ⊎ IsBeside c rs p l)

  beside-makes : (c : Shape F) (w : Draft F) (p : ℕ) (l : Shape F) → IsBeside c w p l → Makes w p
  beside-makes c (taken s) p l b = b
  beside-makes c (made jd u r ks rs) p l (inl b) = inl b.0
  beside-makes c (made jd u r ks rs) p l (inr (inl b)) = inr (inl (beside-makes b.0 ks p l b.2))
  beside-makes c (made jd u r ks rs) p l (inr (inr b)) = inr (inr (beside-makes c rs p l b))

  beside-some : (c : Shape F) (w : Draft F) (p : ℕ) → Follows c w → Makes w p
      → (l : Shape F) × IsBeside c w p l × ((i : ℕ) → Holds l i → Holds c i)
  beside-some c (taken s) p f m = absurd m
  beside-some c (made jd u r ks rs) p f (inl e) = (c, inl (e, refl), λ i h. h)
  beside-some c (made jd u r ks rs) p f (inr (inr m)) = let x = beside-some c rs p f.1 m in (x.0, inr (inr x.1), x.2)
  beside-some c (made jd u r ks rs) p f (inr (inl m)) =
      elim f.0.2 [
        | inl e ↦ absurd (rw e at m)
        | inr g ↦
            let x = beside-some f.0.0 ks p g m in
            (x.0, inr (inl (f.0.0, f.0.1, x.1)), λ i h. old-held c r f.0.0 i f.0.1 (x.2 i h))
      ]

  pub parent-some : (q : ℕ) (w : Draft F) (p : ℕ) → Makes w p → (r : ℕ) × (made_parent_in (Some q) w p ≡ Some r)
  parent-some q (taken s) p m = absurd m
  parent-some q (made jd u o ks rs) p m =
      by_test (eqb jd p) refl (made_parent_in (Some jd) ks p) refl m (λ x. parent-some jd ks p x) (λ x. parent-some q rs p x)
    where
      by_test : (b : Bool) → eqb jd p ≡ b → (x : Option ℕ) → made_parent_in (Some jd) ks p ≡ x → Makes (made jd u o ks rs) p
          → (Makes ks p → (r : ℕ) × (made_parent_in (Some jd) ks p ≡ Some r)) → (Makes rs p → (r : ℕ) × (made_parent_in (Some q) rs p ≡ Some r))
          → (r : ℕ) × (cond (eqb jd p) (Some q) (or_else (made_parent_in (Some jd) ks p) (made_parent_in (Some q) rs p)) ≡ Some r)
      by_test true e x y n f g = (q, rw e refl)
      by_test false e (Some r) y n f g = (r, rw (e, y) refl)
      by_test false e None y (inl n) f g = let z = eq-eqb jd p (sym n) in cc
      by_test false e None y (inr (inl n)) f g = let z = f n in let z2 = z.1 in cc
      by_test false e None y (inr (inr n)) f g = let z = g n in (z.0, rw (e, y) z.1)

  -- that list is the one that is found by the parent
  beside-found : (t : Roots F) (trees : Trees F) → Shows t trees → (q : Option ℕ) (c : Shape F) (w : Draft F) (p : ℕ) (l : Shape F) → IsMadeOnce w
      → list_under trees q ≡ c
      → ((i : ℕ) (o : Option ℕ) (ks : Draft F) → KidsFor w i o ks → KidsFor trees.draft i o ks)
      → ((o : Option ℕ) (k : Shape F) → IsOldAny c o k → IsOldAny trees.current o k)
      → IsBeside c w p l → list_under trees (made_parent_in q w p) ≡ l
  beside-found t trees h q c (taken s) p l once is sub old b = absurd b
  beside-found t trees h q c (made jd u r ks rs) p l once is sub old (inl b) = rw (eq-eqb jd p (sym b.0)) (is ∙ sym b.1)
  beside-found t trees h q c (made jd u r ks rs) p l once is sub old (inr (inr b)) =
      let m = beside-makes c rs p l b in
      rw (eqb-false jd p (λ e. once.1 (rw e m)), made_parent-absent (Some jd) ks p (λ n. once.2 p n m))
      (beside-found t trees h q c rs p l once.4 is (λ i o x n. sub i o x (inr (inr n))) old b)
  beside-found t trees h q c (made jd u r ks rs) p l once is sub old (inr (inl b)) =
      let m = beside-makes b.0 ks p l b.2 in
      let x = parent-some jd ks p m in
      let kids : old_kids trees jd ≡ b.0 = old_kids-are t trees jd r ks b.0 h (sub jd r ks (inl (refl, refl, refl))) (old r b.0 (top-any c r b.0 b.1)) in
      let ih =
      beside-found t trees h (Some jd) b.0 ks p l once.3 kids (λ i o y n. sub i o y (inr (inl n))) (λ o k a. old o k (any-below c r o b.0 k b.1 a)) b.2 in
      rw (eqb-false jd p (λ e. once.0 (rw e m)), x.1) (rw x.1 at ih)

  old_list-is : (t : Roots F) (trees : Trees F) (p : ℕ) (l : Shape F) → Shows t trees → IsBeside trees.current trees.draft p l → old_list trees p ≡ l
  old_list-is t trees p l h b =
      beside-found t trees h None trees.current trees.draft p l h.stands.made_once refl (λ i o ks n. n) (λ o k a. a) b

  pub old_list-held : (t : Roots F) (trees : Trees F) (p i : ℕ) → Shows t trees → Makes trees.draft p → Holds (old_list trees p) i → Holds trees.current i
  old_list-held t trees p i h m q =
      let x = beside-some trees.current trees.draft p h.stands.follows m in x.2 i (rw (old_list-is t trees p x.0 h x.1) at q)

  module _ (p id : ℕ) (v : F) (o : Option ℕ) where
    abbrev ins : Draft F → Draft F
    ins w = inserted p id v o w

    abbrev adds : Draft F → Draft F
    adds rs = made id v o (taken none) rs

    entry-inserted : (w : Draft F) → entry (ins w) ≡ entry w
    entry-inserted (taken s) = refl
    entry-inserted (made jd u r ks rs) = refl

    for-inserted : (w : Draft F) (i : ℕ) (q : Option ℕ) → IsFor (ins w) i q → IsFor w i q ⊎ ((i ≡ id) × (q ≡ o) × Makes w p)
    for-inserted (taken s) i q h = absurd h
    for-inserted (made jd u r ks rs) i q (inl h) = inl (inl h)
    for-inserted (made jd u r ks rs) i q (inr (inl h)) =
        elim (for-inserted ks i q h) [ inl m ↦ inl (inr (inl m)) | inr m ↦ inr (m.0, m.1, inr (inl m.2)) ]
    for-inserted (made jd u r ks rs) i q (inr (inr h)) = by_test (eqb jd p) refl (for-inserted rs i q) h
      where
        by_test : (b : Bool) → eqb jd p ≡ b → (IsFor (ins rs) i q → IsFor rs i q ⊎ ((i ≡ id) × (q ≡ o) × Makes rs p)) → IsFor (cond b (adds rs) (ins rs)) i q
            → IsFor (made jd u r ks rs) i q ⊎ ((i ≡ id) × (q ≡ o) × Makes (made jd u r ks rs) p)
        by_test true e ih (inl k) = inr (k.0, sym k.1, inl (sym (eqb-true jd p e)))
        by_test true e ih (inr (inl k)) = absurd k
        by_test true e ih (inr (inr k)) = inl (inr (inr k))
        by_test false e ih k = elim (ih k) [ inl m ↦ inl (inr (inr m)) | inr m ↦ inr (m.0, m.1, inr (inr m.2)) ]

    keeps-inserted : (w : Draft F) (i : ℕ) (q : Option ℕ) → IsFor w i q → IsFor (ins w) i q
    keeps-inserted (taken s) i q h = h
    keeps-inserted (made jd u r ks rs) i q (inl h) = inl h
    keeps-inserted (made jd u r ks rs) i q (inr (inl h)) = inr (inl (keeps-inserted ks i q h))
    keeps-inserted (made jd u r ks rs) i q (inr (inr h)) = inr (inr (by_test (eqb jd p) (keeps-inserted rs i q h)))
      where
        by_test : (b : Bool) → IsFor (ins rs) i q → IsFor (cond b (adds rs) (ins rs)) i q
        by_test true x = inr (inr h)
        by_test false x = x

    news-inserted : (w : Draft F) → Makes w p → IsFor (ins w) id o
    news-inserted (taken s) m = absurd m
    news-inserted (made jd u r ks rs) (inl e) = inr (inr (rw (eq-eqb jd p (sym e)) (inl (refl, refl))))
    news-inserted (made jd u r ks rs) (inr (inl m)) = inr (inl (news-inserted ks m))
    news-inserted (made jd u r ks rs) (inr (inr m)) = inr (inr (by_test (eqb jd p) (news-inserted rs m)))
      where
        by_test : (b : Bool) → IsFor (ins rs) id o → IsFor (cond b (adds rs) (ins rs)) id o
        by_test true x = inl (refl, refl)
        by_test false x = x

    makes-inserted : (w : Draft F) (i : ℕ) → Makes (ins w) i → Makes w i ⊎ ((i ≡ id) × Makes w p)
    makes-inserted w i m =
        let r = makes-for (ins w) i m in
        elim (for-inserted w i r.0 r.1) [ inl k ↦ inl (for-makes w i r.0 k) | inr k ↦ inr (k.0, k.2) ]

    once-inserted : (w : Draft F) → IsMadeOnce w → (Makes w id → ⊥) → IsMadeOnce (ins w)
    once-inserted (taken s) h n = tt
    once-inserted (made jd u r ks rs) h n =
        by_test (eqb jd p) refl (once-inserted ks h.3 (λ m. n (inr (inl m)))) (once-inserted rs h.4 (λ m. n (inr (inr m))))
      where
        not_id : jd ≢ id
        not_id e = n (inl (sym e))

        not_ks : Makes (ins ks) jd → ⊥
        not_ks m = elim (makes-inserted ks jd m) [ inl q ↦ h.0 q | inr q ↦ not_id q.0 ]

        by_test : (b : Bool) → eqb jd p ≡ b → IsMadeOnce (ins ks) → IsMadeOnce (ins rs) → IsMadeOnce (made jd u r (ins ks) (cond b (adds rs) (ins rs)))
        by_test true e one two =
            let same = eqb-true jd p e in (
              not_ks,
              λ m. elim m [ inl q ↦ not_id q | inr y ↦ elim y [ inl z ↦ z | inr q ↦ h.1 q ] ],
              λ i a b. elim (makes-inserted ks i a) [
                | inl q ↦ elim b [ inl z ↦ n (inr (inl (rw z at q))) | inr y ↦ elim y [ inl z ↦ z | inr z ↦ h.2 i q z ] ]
                | inr q ↦ h.0 (rw same q.1)
              ],
              one,
              (λ z. z, λ m. n (inr (inr m)), λ i z y. z, tt, h.4),
            )
        by_test false e one two = (
          not_ks,
          λ m. elim (makes-inserted rs jd m) [ inl q ↦ h.1 q | inr q ↦ not_id q.0 ],
          λ i a b. elim (makes-inserted ks i a) [
            | inl q ↦ elim (makes-inserted rs i b) [ inl z ↦ h.2 i q z | inr z ↦ n (inr (inl (rw z.0 at q))) ]
            | inr q ↦ elim (makes-inserted rs i b) [ inl z ↦ n (inr (inr (rw q.0 at z))) | inr z ↦ h.2 p q.1 z.1 ]
          ],
          one,
          two,
        )

    follows-inserted : (c : Shape F) (w : Draft F) → ((l : Shape F) → IsBeside c w p l → (k : Shape F) × IsOldKids l o k) → Follows c w → Follows c (ins w)
    follows-inserted c (taken s) hp f = f
    follows-inserted c (made jd u r ks rs) hp f = (
      (
        f.0.0,
        f.0.1,
        elim f.0.2 [ inl e ↦ inl (ap ins e) | inr g ↦ inr (follows-inserted f.0.0 ks (λ l b. hp l (inr (inl (f.0.0, f.0.1, b)))) g) ],
      ),
      by_test (eqb jd p) refl (follows-inserted c rs (λ l b. hp l (inr (inr b))) f.1),
    )
      where
        by_test : (b : Bool) → eqb jd p ≡ b → Follows c (ins rs) → Follows c (cond b (adds rs) (ins rs))
        by_test true e x = let y = hp c (inl (sym (eqb-true jd p e), refl)) in ((y.0, y.1, inr refl), f.1)
        by_test false e x = x

    -- the new fiber is read between the other and what is behind
    Drafts-inserted : (old new : Nodes F) (q : Option ℕ) (w : Draft F) → IsMadeOnce w → ((i : ℕ) → Makes w i → i ≢ p → at new i ≡ at old i)
        → at new p ≡ option_map (with_sibling (Some id)) (at old p) → at new id ≡ option_map (sibling_node v o) (at old p)
        → Drafts old q w → Drafts new q (ins w)
    Drafts-inserted old new q (taken s) once same here there d = tt
    Drafts-inserted old new q (made jd u r ks rs) once same here there d =
        by_case (same_or_not jd p)
        (Drafts-inserted old new (Some jd) ks once.3 (λ i m. same i (inr (inl m))) here there d.1)
        (Drafts-inserted old new q rs once.4 (λ i m. same i (inr (inr m))) here there d.2)
      where
        by_case : (jd ≡ p) ⊎ (jd ≢ p) → Drafts new (Some jd) (ins ks) → Drafts new q (ins rs) → Drafts new q (made jd u r (ins ks) (cond (eqb jd p) (adds rs) (ins rs)))
        by_case (inl e) one two =
            let k : at old p ≡ Some (node u (entry ks) (entry rs) q r) = rw e at d.0 in
            rw (eq-eqb jd p e) (
              rw (e, entry-inserted ks, here, k) refl,
              one,
              (rw (there, k) refl, tt, Drafts-frame old new q rs (λ i m. same i (inr (inr m)) (λ z. once.1 (rw (e, ← z) m))) d.2),
            )
        by_case (inr e) one two =
            rw (eqb-false jd p e) (rw (entry-inserted ks, entry-inserted rs) (same jd (inl refl) e ∙ d.0), one, two)

  alternate-sibling : (x : Option ℕ) (s : Option (Node F)) → alternate_in (option_map (with_sibling x) s) ≡ alternate_in s
  alternate-sibling x None = refl
  alternate-sibling x (Some n) = refl

  alternate-beside : (v : F) (x : Option ℕ) (s : Option (Node F)) → IsSome s → alternate_in (option_map (sibling_node v x) s) ≡ x
  alternate-beside v x None h = cc
  alternate-beside v x (Some n) h = refl

  module _ (t : Roots F) (trees : Trees F) (new : Nodes F) (p id : ℕ) (v : F) (o : Option ℕ) (h : Shows t trees) (makes_p : Makes trees.draft p)
      (top : IfSome o (IsTop (old_list trees p))) (unused : IfSome o (IsUnused trees.draft)) (g : Inserts t.nodes new p id v o) where
    live_p : IsSome (at t.nodes p)
    live_p = made-live t trees.current trees.draft h.stands p makes_p

    vacant : (i : ℕ) → IsSome (at t.nodes i) → i ≢ id
    vacant i s e = let q = rw (e, g.vacant) at s in cc

    pub behind_current : Holds trees.current id → ⊥
    behind_current m = vacant id (held-live t trees.current trees.draft h.stands id m) refl

    pub behind_draft : Makes trees.draft id → ⊥
    behind_draft m = vacant id (made-live t trees.current trees.draft h.stands id m) refl

    old_held : (j : ℕ) → o ≡ Some j → Holds trees.current j
    old_held j e = old_list-held t trees p j h makes_p (top-holds (old_list trees p) j (some-at o _ j top e))

    not_p : (i : ℕ) → Holds trees.current i → i ≢ p
    not_p i m e = h.stands.apart i m (rw e makes_p)

    not_id : (i : ℕ) → Holds trees.current i → i ≢ id
    not_id i m = vacant i (held-live t trees.current trees.draft h.stands i m)

    other : (j : ℕ) → o ≡ Some j → at new j ≡ option_map (with_alternate (Some id)) (at t.nodes j)
    other j e = some-at o (λ j. at new j ≡ option_map (with_alternate (Some id)) (at t.nodes j)) j g.other e

    core_same : (i : ℕ) → Holds trees.current i → core_at new i ≡ core_at t.nodes i
    core_same i m =
        elim (leads_or_not o i) [
          | inl e ↦ ap (option_map core_of) (other i e) ∙ core-alternate (Some id) (at t.nodes i)
          | inr n ↦ ap (option_map core_of) (g.others i (not_id i m) (not_p i m) n)
        ]

    up_same : (i : ℕ) → Holds trees.current i → up_at new i ≡ up_at t.nodes i
    up_same i m =
        elim (leads_or_not o i) [
          | inl e ↦ ap up_in (other i e) ∙ up-alternate (Some id) (at t.nodes i)
          | inr n ↦ ap up_in (g.others i (not_id i m) (not_p i m) n)
        ]

    made_same : (i : ℕ) → Makes trees.draft i → i ≢ p → at new i ≡ at t.nodes i
    made_same i m n = g.others i (vacant i (made-live t trees.current trees.draft h.stands i m)) n (λ e. h.stands.apart i (old_held i e) m)

    keeps : (i : ℕ) (q : Option ℕ) → IsFor trees.draft i q → IsFor (inserted p id v o trees.draft) i q
    keeps i q k = keeps-inserted p id v o trees.draft i q k

    keeps_made : (i : ℕ) → Makes trees.draft i → Makes (inserted p id v o trees.draft) i
    keeps_made i m = let r = makes-for trees.draft i m in for-makes (inserted p id v o trees.draft) i r.0 (keeps i r.0 r.1)

    news : IsFor (inserted p id v o trees.draft) id o
    news = news-inserted p id v o trees.draft makes_p

    alternate_here : alternate_at new id ≡ o
    alternate_here = ap alternate_in g.made ∙ alternate-beside v o (at t.nodes p) live_p

    alternate_p : alternate_at new p ≡ alternate_at t.nodes p
    alternate_p = ap alternate_in g.linked ∙ alternate-sibling (Some id) (at t.nodes p)

    back_new : (i j : ℕ) → IsFor (inserted p id v o trees.draft) i (Some j) → alternate_at new j ≡ Some i
    back_new i j f =
        elim (for-inserted p id v o trees.draft i (Some j) f) [
          | inl k ↦
              let m = for-held trees.current trees.draft i j h.stands.follows k in
              ap alternate_in (g.others j (not_id j m) (not_p j m) (λ e. unused-not trees.draft i j (some-at o _ j unused e) k)) ∙ h.stands.back i j k
          | inr k ↦
              let m = old_held j (sym k.1) in
              rw k.0 (ap alternate_in (other j (sym k.1)) ∙ alternate-alternate (Some id) (at t.nodes j) (held-live t trees.current trees.draft h.stands j m))
        ]

    kept_link : (i j : ℕ) → alternate_at t.nodes i ≡ Some j → IsFor (inserted p id v o trees.draft) i (Some j) ⊎ IsFor (inserted p id v o trees.draft) j (Some i)
    kept_link i j e = elim (h.stands.links i j e) [ inl k ↦ inl (keeps i (Some j) k) | inr k ↦ inr (keeps j (Some i) k) ]

    links_new : (i j : ℕ) → alternate_at new i ≡ Some j → IsFor (inserted p id v o trees.draft) i (Some j) ⊎ IsFor (inserted p id v o trees.draft) j (Some i)
    links_new i j e = by_case (same_or_not i id) (same_or_not i p) (leads_or_not o i)
      where
        by_case : (i ≡ id) ⊎ (i ≢ id) → (i ≡ p) ⊎ (i ≢ p) → (o ≡ Some i) ⊎ (o ≢ Some i)
            → IsFor (inserted p id v o trees.draft) i (Some j) ⊎ IsFor (inserted p id v o trees.draft) j (Some i)
        by_case (inl a) b c =
            let q : o ≡ Some j = sym alternate_here ∙ (rw a at e) in
            inl (rw (a, ← q) news)
        by_case (inr a) (inl b) c = kept_link i j (rw b (sym alternate_p ∙ (rw b at e)))
        by_case (inr a) (inr b) (inl c) =
            let m = old_held i c in
            let x = sym (ap alternate_in (other i c) ∙ alternate-alternate (Some id) (at t.nodes i) (held-live t trees.current trees.draft h.stands i m)) ∙ e in
            let y : j ≡ id = cc in
            inr (rw (y, ← c) news)
        by_case (inr a) (inr b) (inr c) = kept_link i j (sym (ap alternate_in (g.others i a b c)) ∙ e)

    all_new : (i : ℕ) → IsSome (at new i) → Holds trees.current i ⊎ Makes (inserted p id v o trees.draft) i
    all_new i s = by_case (same_or_not i id) (same_or_not i p) (leads_or_not o i)
      where
        by_case : (i ≡ id) ⊎ (i ≢ id) → (i ≡ p) ⊎ (i ≢ p) → (o ≡ Some i) ⊎ (o ≢ Some i) → Holds trees.current i ⊎ Makes (inserted p id v o trees.draft) i
        by_case (inl a) b c = inr (rw a (for-makes (inserted p id v o trees.draft) id o news))
        by_case (inr a) (inl b) c = inr (keeps_made i (rw b makes_p))
        by_case (inr a) (inr b) (inl c) = inl (old_held i c)
        by_case (inr a) (inr b) (inr c) = elim (h.stands.all i (rw (g.others i a b c) at s)) [ inl m ↦ inl m | inr m ↦ inr (keeps_made i m) ]

    old_here : (l : Shape F) → IsBeside trees.current trees.draft p l → (k : Shape F) × IsOldKids l o k
    old_here l b = by_old o (λ j e. rw (old_list-is t trees p l h b) at (some-at o _ j top e))
      where
        by_old : (q : Option ℕ) → ((j : ℕ) → q ≡ Some j → IsTop l j) → (k : Shape F) × IsOldKids l q k
        by_old None f = (none, refl)
        by_old (Some j) f = top-kids l j (f j refl)

    pub inserted-shows : slab_len t.nodes + 1 < 2 ^ 64 → Shows (record t { nodes = new }) (record trees { draft = inserted p id v o trees.draft })
    unfolding limit
    inserted-shows room = record {
      stands = record {
        leads_current = h.stands.leads_current;
        leads_draft = h.stands.leads_draft ∙ sym (entry-inserted p id v o trees.draft);
        reads = Reads-frame t.nodes new trees.current core_same h.stands.reads;
        returns = Returns-frame t.nodes new None trees.current up_same h.stands.returns;
        drafts = Drafts-inserted p id v o t.nodes new None trees.draft h.stands.made_once made_same g.linked g.made h.stands.drafts;
        once = h.stands.once;
        made_once = once-inserted p id v o trees.draft h.stands.made_once behind_draft;
        apart = λ i a b. elim (makes-inserted p id v o trees.draft i b) [ inl q ↦ h.stands.apart i a q | inr q ↦ behind_current (rw (← q.0) a) ];
        follows = follows-inserted p id v o trees.current trees.draft old_here h.stands.follows;
        back = back_new;
        links = links_new;
        all = all_new;
      };
      small = omega (arith, g.live, room);
    }

  pub behinds-held : (t : Roots F) (trees : Trees F) (p : ℕ) (o : Option ℕ) → Shows t trees → Makes trees.draft p → IfSome o (IsTop (old_list trees p))
      → IfSome o (Holds trees.current)
  behinds-held t trees p o h m top = if-some o _ (λ j e. old_list-held t trees p j h m (top-holds (old_list trees p) j (some-at o _ j top e)))

  pub behinds-live : (t : Roots F) (trees : Trees F) (p : ℕ) (o : Option ℕ) → Shows t trees → Makes trees.draft p → IfSome o (IsTop (old_list trees p))
      → IfSome o (λ j. IsSome (at t.nodes j))
  behinds-live t trees p o h m top =
      if-some o _ (λ j e. held-live t trees.current trees.draft h.stands j (some-at o _ j (behinds-held t trees p o h m top) e))

  pub behinds-differ : (t : Roots F) (trees : Trees F) (p : ℕ) (o : Option ℕ) → Shows t trees → Makes trees.draft p → IfSome o (IsTop (old_list trees p))
      → o ≢ Some p
  behinds-differ t trees p o h m top e = h.stands.apart p (some-at o _ p (behinds-held t trees p o h m top) e) m
