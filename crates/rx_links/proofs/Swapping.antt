-- The tree in progress becomes the current one.
use Rattle.std.proofs.Common.{Bool, true, false, cond, ◌≡◌, ◌⊎◌, inl, inr, ℕ, refl, sym, ap, ◌∙◌, IsSome, Some, None, Option, option_map, arith}
use Rattle.rx_arena.specs.Nodes.{at, alternate_in, with_up}
use Rattle.rx_arena.specs.declared.arena.Node.{Node}
use Rattle.rx_lists.specs.Adopted.{KidsReturn, SharedReturn, CanAdopt, Adopts}
use Rattle.rx_lists.specs.Freed.{own_part, own_list, IsReady, Frees}
use Rattle.rx_lists.specs.Links.{child_at, child_under, same_link, is_shared}
use Rattle.rx_lists.specs.Reads.{Nodes, up_in, up_at, alternate_at, Reads, Returns, limit, shape_of}
use Rattle.rx_lists.specs.Shapes.{Shape, none, fiber, first, Holds, IsTree, IsTop}
use Rattle.rx_lists.proofs.Adopting.{alternate-same, shared-same, reads-same, returns-kids, kids-returns, top-below}
use Rattle.rx_lists.proofs.Frames.{eqb-false, Reads-frame, Returns-frame, child-core, shape_of-reads}
use Rattle.rx_lists.proofs.Freeing.{core-kept, up-kept, is-read, own-held, own-frame}
use Rattle.rx_links.specs.Drafts.{Draft, taken, made, Trees, entry, Makes, IsFor, grafted, HasTop, IsOldKids, Follows}
use Rattle.rx_links.proofs.Parts.{HasKids, Takes}
use Rattle.rx_links.specs.Stands.{Drafts, Roots, Shows}
use Rattle.rx_links.proofs.Computed.{whole, current-small, draft-small}
use Rattle.rx_links.proofs.DraftFrames.{first-grafted, Reads-grafted, old-read}
use Rattle.rx_links.proofs.Dropping.{same_link-true, old-link, links-differ, any-link, made-node, kids-makes}
use Rattle.rx_links.proofs.Edits.{KidsFor, kids_for-for, IsOldAny, has-held, has-here, kids_at-is}
use Rattle.rx_links.proofs.Whole.{old-held, for-makes, holds-cases, makes-grafted, takes-grafted}
use Rattle.rx_links.proofs.Writes.{for-any}

module _ {F : Type 0} where
  differ-links : (k : Shape F) (id : ℕ) → (Holds k id → ⊥) → same_link (first k) (Some id) ≡ false
  differ-links none id n = refl
  differ-links (fiber jd u ls ts) id n = eqb-false jd id (λ e. n (inl (sym e)))

  top-returns : (a : Nodes F) (c : Shape F) (j : ℕ) (k : Shape F) → KidsReturn a c → HasTop c j k → Returns a (Some j) k
  top-returns a none j k r h = absurd h
  top-returns a (fiber id v ks rs) j k r (inl h) = rw (← h.0, ← h.1) r.0
  top-returns a (fiber id v ks rs) j k r (inr h) = top-returns a rs j k r.1 h

  old-returns : (a : Nodes F) (c : Shape F) (o : Option ℕ) (k : Shape F) → KidsReturn a c → IsOldKids c o k → KidsReturn a k
  old-returns a c None k r h = rw h tt
  old-returns a c (Some j) k r h = returns-kids a (Some j) k (top-returns a c j k r h)

  -- below what was taken over the return links are exact
  shared-draft : (a : Nodes F) (c : Shape F) (q : Option ℕ) (w : Draft F) → Reads a c → KidsReturn a c → Follows c w → Drafts a q w
      → ((i : ℕ) → Holds c i → Makes w i → ⊥) → SharedReturn a (grafted w)
  shared-draft a c q (taken s) r z f d n = rw f tt
  shared-draft a c q (made id v o ks rs) r z f d n =
      let link : is_shared a id ≡ same_link (entry ks) (first f.0.0) = rw (d.0, old-link a c o f.0.0 r f.0.1) refl in
      let inner : Follows f.0.0 ks → SharedReturn a (grafted ks) =
      λ g. shared-draft a f.0.0 (Some id) ks (old-read a c o f.0.0 r f.0.1) (old-returns a c o f.0.0 z f.0.1) g d.1
      (λ i h m. n i (old-held c o f.0.0 i f.0.1 h) (inr (inl m))) in (
        λ e. kids_exact ks f.0.0 (sym link ∙ e) f.0.2 (old-returns a c o f.0.0 z f.0.1) (λ i h m. n i (old-held c o f.0.0 i f.0.1 h) (inr (inl m))),
        λ e. elim f.0.2 [ inl g ↦ absurd (let x = ap entry g in let y = same_link-true (first f.0.0) in cc) | inr g ↦ inner g ],
        shared-draft a c q rs r z f.1 d.2 (λ i h m. n i h (inr (inr m))),
      )
    where
      kids_exact : (x : Draft F) (k : Shape F) → same_link (entry x) (first k) ≡ true → (x ≡ taken k) ⊎ Follows k x → KidsReturn a k
          → ((i : ℕ) → Holds k i → Makes x i → ⊥) → KidsReturn a (grafted x)
      kids_exact x k e (inl g) y m = rw g y
      kids_exact (taken s) k e (inr g) y m = rw g tt
      kids_exact (made jd u p ls ts) k e (inr g) y m = let x = links-differ k jd (λ h. m jd h (inl refl)) in cc

  -- the list's own fibers are own
  top-own : (a : Nodes F) (c : Shape F) (j : ℕ) (k : Shape F) → HasTop c j k → Holds (own_part a c) j
  top-own a none j k h = absurd h
  top-own a (fiber id v ks rs) j k (inl h) = inl (sym h.0)
  top-own a (fiber id v ks rs) j k (inr h) = inr (inr (top-own a rs j k h))

  own-below : (a : Nodes F) (c : Shape F) (j : ℕ) (k : Shape F) (i : ℕ) → HasTop c j k → is_shared a j ≡ false → Holds (own_part a k) i → Holds (own_part a c) i
  own-below a none j k i h e m = absurd h
  own-below a (fiber id v ks rs) j k i (inl h) e m = inr (inl (rw (h.0, e, h.1) m))
  own-below a (fiber id v ks rs) j k i (inr h) e m = inr (inr (own-below a rs j k i h e m))

  -- a current fiber that one was made for is own
  for-own : (a : Nodes F) (c : Shape F) (q : Option ℕ) (w : Draft F) (i j : ℕ) → Reads a c → Follows c w → Drafts a q w
      → ((m l : ℕ) → IsFor w m (Some l) → alternate_at a l ≡ Some m) → ((m : ℕ) → Holds c m → Makes w m → ⊥) → IsFor w i (Some j) → Holds (own_part a c) j
  for-own a c q (taken s) i j r f d b n h = absurd h
  for-own a c q (made id v o ks rs) i j r f d b n (inl h) = top-own a c j f.0.0 (rw h.1 at f.0.1)
  for-own a c q (made id v o ks rs) i j r f d b n (inr (inr h)) =
      for-own a c q rs i j r f.1 d.2 (λ m l x. b m l (inr (inr x))) (λ m x y. n m x (inr (inr y))) h
  for-own a c q (made id v o ks rs) i j r f d b n (inr (inl h)) =
      elim f.0.2 [
        | inl e ↦ absurd (rw e at h)
        | inr g ↦
            lift o refl f.0.1 (λ l e. b id l (inl (refl, e)))
            (for-own a f.0.0 (Some id) ks i j (old-read a c o f.0.0 r f.0.1) g d.1 (λ m l x. b m l (inr (inl x))) (λ m x y. n m (old-held c o f.0.0 m f.0.1 x) (inr (inl y))) h)
      ]
    where
      made_entry : (x : Draft F) → IsFor x i (Some j) → ((m : ℕ) → Holds f.0.0 m → Makes x m → ⊥) → same_link (first f.0.0) (entry x) ≡ false
      made_entry (taken s) y z = absurd y
      made_entry (made jd u p ls ts) y z = differ-links f.0.0 jd (λ m. z jd m (inl refl))

      lift : (x : Option ℕ) → o ≡ x → IsOldKids c x f.0.0 → ((l : ℕ) → o ≡ Some l → alternate_at a l ≡ Some id) → Holds (own_part a f.0.0) j → Holds (own_part a c) j
      lift None e y z m = absurd (nothing f.0.0 y m)
        where
          nothing : (k : Shape F) → k ≡ none → Holds (own_part a k) j → ⊥
          nothing none e x = x
          nothing (fiber jd u ls ts) e x = cc
      lift (Some l) e y z m =
          let ch : child_at a l ≡ first f.0.0 = old-link a c (Some l) f.0.0 r y in
          let no : is_shared a l ≡ false = rw (ch, z l e, d.0) (made_entry ks h (λ x u w. n x (old-held c o f.0.0 x f.0.1 u) (inr (inl w)))) in
          own-below a c l f.0.0 j y no m

  -- what was taken over is below a made fiber that has nothing else below
  pub takes-kids : (c : Shape F) (w : Draft F) (i : ℕ) → Follows c w → Takes w i → (m : ℕ) × (o : Option ℕ) × (k : Shape F) × KidsFor w m o (taken k) × Holds k i
  takes-kids c (taken s) i f t = absurd (rw f at t)
  takes-kids c (made id v o ks rs) i f (inr t) =
      let r = takes-kids c rs i f.1 t in (r.0, r.1, r.2, inr (inr r.3), r.4)
  takes-kids c (made id v o ks rs) i f (inl t) =
      elim f.0.2 [
        | inl e ↦ (id, o, f.0.0, inl (refl, refl, e), rw e at t)
        | inr g ↦ let r = takes-kids f.0.0 ks i g t in (r.0, r.1, r.2, inr (inl r.3), r.4)
      ]

  kids-takes : (w : Draft F) (m : ℕ) (o : Option ℕ) (k : Shape F) (i : ℕ) → KidsFor w m o (taken k) → Holds k i → Takes w i
  kids-takes (taken s) m o k i h x = absurd h
  kids-takes (made id v old ls rs) m o k i (inl h) x = inl (rw h.2 x)
  kids-takes (made id v old ls rs) m o k i (inr (inl h)) x = inl (kids-takes ls m o k i h x)
  kids-takes (made id v old ls rs) m o k i (inr (inr h)) x = inr (kids-takes rs m o k i h x)

  own-cond : (a : Nodes F) (id : ℕ) (ks : Shape F) (i : ℕ) → Holds (cond (is_shared a id) none (own_part a ks)) i → Holds ks i
  own-cond a id ks i x = by_test (is_shared a id) x
    where
      by_test : (b : Bool) → Holds (cond b none (own_part a ks)) i → Holds ks i
      by_test true y = absurd y
      by_test false y = own-held a ks i y

  -- what is below a shared fiber is not own
  shared-not : (a : Nodes F) (c : Shape F) (j : ℕ) (k : Shape F) (i : ℕ) → IsTree c → HasKids c j k → is_shared a j ≡ true → Holds k i → Holds (own_part a c) i → ⊥
  shared-not a none j k i t h e m x = h
  shared-not a (fiber id v ks rs) j k i t (inl h) e m (inl x) = t.0 (rw (← x, h.1) m)
  shared-not a (fiber id v ks rs) j k i t (inl h) e m (inr (inl x)) = rw (h.0, e) at x
  shared-not a (fiber id v ks rs) j k i t (inl h) e m (inr (inr x)) = t.2 i (rw h.1 m) (own-held a rs i x)
  shared-not a (fiber id v ks rs) j k i t (inr (inl h)) e m (inl x) = t.0 (rw x at (has-held ks j k i h m))
  shared-not a (fiber id v ks rs) j k i t (inr (inl h)) e m (inr (inl x)) = by_test (is_shared a id) (λ y. shared-not a ks j k i t.3 h e m y) x
    where
      by_test : (b : Bool) → (Holds (own_part a ks) i → ⊥) → Holds (cond b none (own_part a ks)) i → ⊥
      by_test true ih y = y
      by_test false ih y = ih y
  shared-not a (fiber id v ks rs) j k i t (inr (inl h)) e m (inr (inr x)) = t.2 i (has-held ks j k i h m) (own-held a rs i x)
  shared-not a (fiber id v ks rs) j k i t (inr (inr h)) e m (inl x) = t.1 (rw x at (has-held rs j k i h m))
  shared-not a (fiber id v ks rs) j k i t (inr (inr h)) e m (inr (inl x)) = t.2 i (own-cond a id ks i x) (has-held rs j k i h m)
  shared-not a (fiber id v ks rs) j k i t (inr (inr h)) e m (inr (inr x)) = shared-not a rs j k i t.4 h e m x

  for-kids : (w : Draft F) (m : ℕ) (o : Option ℕ) → IsFor w m o → (ks : Draft F) × KidsFor w m o ks
  for-kids (taken s) m o f = absurd f
  for-kids (made id v old ls rs) m o (inl f) = (ls, inl (f.0, f.1, refl))
  for-kids (made id v old ls rs) m o (inr (inl f)) = let r = for-kids ls m o f in (r.0, inr (inl r.1))
  for-kids (made id v old ls rs) m o (inr (inr f)) = let r = for-kids rs m o f in (r.0, inr (inr r.1))

  module _ (t : Roots F) (trees : Trees F) (h : Shows t trees) where
    -- what was taken over is not released
    taken-not-own : (i : ℕ) → Takes trees.draft i → Holds (own_part t.nodes trees.current) i → ⊥
    taken-not-own i q x =
        let r = takes-kids trees.current trees.draft i h.stands.follows q in
        let a = for-any trees.current trees.draft r.0 r.1 (taken r.2) h.stands.follows r.3 in
        by_old r.1 r.0 r.2 a.0 r.3 a.1 a.2 r.4
      where
        by_old : (o : Option ℕ) (m : ℕ) (k l : Shape F) → KidsFor trees.draft m o (taken k) → IsOldAny trees.current o l → (taken k ≡ taken l) ⊎ Follows l (taken k) → Holds k i → ⊥
        by_old o m k l kf y (inr g) z = rw g at z
        by_old None m k l kf y (inl e) z = let s : k ≡ l = cc in rw (s, y) at z
        by_old (Some j) m k l kf y (inl e) z =
            let s : k ≡ l = cc in
            let n = made-node t.nodes None trees.draft m (Some j) (taken k) h.stands.drafts kf in
            let ch = n.child in
            let b = h.stands.back m j (kids_for-for trees.draft m (Some j) (taken k) kf) in
            let link : child_at t.nodes j ≡ first l = any-link t.nodes trees.current (Some j) l h.stands.reads y in
            let sh : is_shared t.nodes j ≡ true = rw (link, b, ch, s) (same_link-true (first l)) in
            shared-not t.nodes trees.current j l i h.stands.once y sh (rw s at z) x

    -- a current fiber is own, or was taken over
    own-or-taken : (c : Shape F) → Reads t.nodes c → ((j : ℕ) (k : Shape F) → HasKids c j k → HasKids trees.current j k) → (i : ℕ) → Holds c i
        → Holds (own_part t.nodes c) i ⊎ Takes trees.draft i
    own-or-taken none r p i x = absurd x
    own-or-taken (fiber id v ks rs) r p i (inl e) = inl (inl e)
    own-or-taken (fiber id v ks rs) r p i (inr (inr x)) =
        elim (own-or-taken rs r.2 (λ j k m. p j k (inr (inr m))) i x) [ inl y ↦ inl (inr (inr y)) | inr y ↦ inr y ]
    own-or-taken (fiber id v ks rs) r p i (inr (inl x)) =
        by_test (is_shared t.nodes id) refl (own-or-taken ks r.1 (λ j k m. p j k (inr (inl m))) i x)
      where
        held_id : Holds trees.current id
        held_id = has-here trees.current id ks (p id ks (inl (refl, refl)))

        -- the kids of a shared fiber were taken over by its alternate
        by_made : (m : ℕ) → IsFor trees.draft m (Some id) → same_link (first ks) (child_at t.nodes m) ≡ true → Takes trees.draft i
        by_made m f e =
            let y = for-kids trees.draft m (Some id) f in
            let a = for-any trees.current trees.draft m (Some id) y.0 h.stands.follows y.1 in
            let l_is : a.0 ≡ ks = kids_one a.0 a.1 in
            let n = made-node t.nodes None trees.draft m (Some id) y.0 h.stands.drafts y.1 in
            let ch = n.child in
            by_kids y.0 a.0 l_is y.1 a.2 (rw ch at e)
          where
            kids_one : (l : Shape F) → HasKids trees.current id l → l ≡ ks
            kids_one l y =
                let u = kids_at-is trees.current id l h.stands.once y in
                let w = kids_at-is trees.current id ks h.stands.once (p id ks (inl (refl, refl))) in
                cc

            by_kids : (d : Draft F) (l : Shape F) → l ≡ ks → KidsFor trees.draft m (Some id) d → (d ≡ taken l) ⊎ Follows l d → same_link (first ks) (entry d) ≡ true → Takes trees.draft i
            by_kids d l e2 kf (inl e3) e4 = kids-takes trees.draft m (Some id) ks i (rw (e3, e2) at kf) x
            by_kids (taken s) l e2 kf (inr g) e4 = absurd (no_first ks x (rw g at e4))
              where
                no_first : (k : Shape F) → Holds k i → same_link (first k) None ≡ true → ⊥
                no_first none y z = y
                no_first (fiber jd u ls ts) y z = cc
            by_kids (made jd u o ls ts) l e2 kf (inr g) e4 =
                absurd (let z = differ-links ks jd (λ y. clash y) in cc)
              where
                clash : Holds ks jd → ⊥
                clash y = h.stands.apart jd (has-held trees.current id ks jd (p id ks (inl (refl, refl))) y) (kids-makes trees.draft m (Some id) (made jd u o ls ts) jd kf (inl refl))

        by_alternate : (o : Option ℕ) → alternate_at t.nodes id ≡ o → same_link (first ks) (child_under t.nodes o) ≡ true → Takes trees.draft i
        by_alternate None e q = absurd (no_first ks x q)
          where
            no_first : (k : Shape F) → Holds k i → same_link (first k) None ≡ true → ⊥
            no_first none y z = y
            no_first (fiber jd u ls ts) y z = cc
        by_alternate (Some m) e q =
            elim (h.stands.links id m e) [
              | inl f ↦ absurd (h.stands.apart id held_id (for-makes trees.draft id (Some m) f))
              | inr f ↦ by_made m f q
            ]

        by_test : (b : Bool) → is_shared t.nodes id ≡ b → Holds (own_part t.nodes ks) i ⊎ Takes trees.draft i
            → Holds (own_part t.nodes (fiber id v ks rs)) i ⊎ Takes trees.draft i
        by_test true e ih =
            inr (by_alternate (alternate_at t.nodes id) refl (sym (ap (λ l. same_link l (child_under t.nodes (alternate_at t.nodes id))) (child-core t.nodes id v (first ks) (first rs) r.0)) ∙ e))
        by_test false e ih = elim ih [ inl y ↦ inl (inr (inl (rw e y))) | inr y ↦ inr y ]

    draft_read : Reads t.nodes (grafted trees.draft)
    draft_read = Reads-grafted t.nodes trees.current None trees.draft h.stands.reads h.stands.follows h.stands.drafts

    draft_shape : shape_of limit t.nodes t.draft ≡ grafted trees.draft
    draft_shape =
        ap (shape_of limit t.nodes) (h.stands.leads_draft ∙ sym (first-grafted trees.draft))
        ∙ shape_of-reads limit t.nodes (grafted trees.draft) draft_read (draft-small t trees h)

    tree : IsTree (grafted trees.draft)
    tree = whole t trees.current trees.draft h.stands

    pub swap-can : CanAdopt t.nodes t.draft
    swap-can = record {
      read = rw (h.stands.leads_draft, ← first-grafted trees.draft) (is-read t.nodes (grafted trees.draft) draft_read (draft-small t trees h));
      once = rw draft_shape tree;
      shared = rw draft_shape
          (shared-draft t.nodes trees.current None trees.draft h.stands.reads (returns-kids t.nodes None trees.current h.stands.returns) h.stands.follows
          h.stands.drafts h.stands.apart);
    }

    module _ (mid : Nodes F) (adopted_ : Adopts t.nodes mid (shape_of limit t.nodes t.draft)) where
      adopted : Adopts t.nodes mid (grafted trees.draft)
      adopted = rw draft_shape at adopted_

      current_read : Reads mid trees.current
      current_read = reads-same t.nodes mid trees.current adopted.flat h.stands.reads

      current_shape : shape_of limit mid t.current ≡ trees.current
      current_shape = ap (shape_of limit mid) h.stands.leads_current ∙ shape_of-reads limit mid trees.current current_read (current-small t trees h)

      current_own : own_list mid t.current ≡ own_part t.nodes trees.current
      current_own =
          ap (own_part mid) current_shape ∙ own-frame t.nodes mid trees.current (λ i m. shared-same t.nodes mid adopted.flat i)

      pub swap-ready : IsReady mid t.current
      swap-ready = record {
        read = rw h.stands.leads_current (is-read mid trees.current current_read (current-small t trees h));
        once = rw current_shape h.stands.once;
        apart = λ i j a e b.
            let x = own-held t.nodes trees.current i (rw current_own at a) in
            let y = own-held t.nodes trees.current j (rw current_own at b) in
            elim (h.stands.links i j (sym (alternate-same t.nodes mid i (adopted.flat i)) ∙ e)) [
              | inl f ↦ h.stands.apart i x (for-makes trees.draft i (Some j) f)
              | inr f ↦ h.stands.apart j y (for-makes trees.draft j (Some i) f)
            ];
      }

      module _ (new : Nodes F) (freed_ : Frees mid new (Holds (own_list mid t.current))) where
        freed : Frees mid new (Holds (own_part t.nodes trees.current))
        freed = rw current_own at freed_

        stays : (i : ℕ) → Holds (grafted trees.draft) i → Holds (own_part t.nodes trees.current) i → ⊥
        stays i m x = elim (holds-cases trees.draft i m) [
          | inl q ↦ h.stands.apart i (own-held t.nodes trees.current i x) q
          | inr q ↦ taken-not-own i q x
        ]

        tops_up : (i : ℕ) → IsTop (grafted trees.draft) i → up_at mid i ≡ None
        tops_up i m = ap up_in (adopted.others i (λ b. top-below (grafted trees.draft) i tree m b)) ∙ made_top trees.current trees.draft h.stands.follows h.stands.drafts i m
          where
            made_top : (c : Shape F) (w : Draft F) → Follows c w → Drafts t.nodes None w → (i : ℕ) → IsTop (grafted w) i → up_at t.nodes i ≡ None
            made_top c (taken s) f d i m = absurd (nothing s f m)
              where
                nothing : (k : Shape F) → k ≡ none → IsTop k i → ⊥
                nothing none e x = x
                nothing (fiber jd u ls ts) e x = cc
            made_top c (made id v o ks rs) f d i (inl e) = rw (← e, d.0) refl
            made_top c (made id v o ks rs) f d i (inr m) = made_top c rs f.1 d.2 i m

        pub swapped-shows : Shows (record { nodes = new; current = t.draft; draft = None }) (record { current = grafted trees.draft; draft = taken none })
        swapped-shows = record {
          stands = record {
            leads_current = h.stands.leads_draft ∙ sym (first-grafted trees.draft);
            leads_draft = refl;
            reads = Reads-frame mid new (grafted trees.draft) (λ i m. core-kept mid new i (freed.kept i (stays i m)))
                (reads-same t.nodes mid (grafted trees.draft) adopted.flat draft_read);
            returns = Returns-frame mid new None (grafted trees.draft) (λ i m. up-kept mid new i (freed.kept i (stays i m)))
                (kids-returns mid None (grafted trees.draft) tops_up adopted.returns);
            drafts = tt;
            once = tree;
            made_once = tt;
            apart = λ i a b. b;
            follows = refl;
            back = λ i j f. absurd f;
            links = λ i j e. absurd (no_links i j e);
            all = λ i s. inl (kept_all i s);
          };
          small = omega (arith, freed.count, adopted.live, h.small);
        }
          where
            own_for : (i j : ℕ) → IsFor trees.draft i (Some j) → Holds (own_part t.nodes trees.current) j
            own_for i j f =
                for-own t.nodes trees.current None trees.draft i j h.stands.reads h.stands.follows h.stands.drafts h.stands.back h.stands.apart f

            no_links : (i j : ℕ) → alternate_at new i ≡ Some j → ⊥
            no_links i j e =
                let r = freed.cuts i j e in
                elim (h.stands.links i j (sym (alternate-same t.nodes mid i (adopted.flat i)) ∙ r.0)) [
                  | inl f ↦ r.1 (own_for i j f)
                  | inr f ↦ let g = freed.gone i (own_for j i f) in let q = ap alternate_in g in cc
                ]

            live_before : (i : ℕ) → IsSome (at new i) → IsSome (at t.nodes i)
            live_before i s = by_slot (at t.nodes i) refl
              where
                by_slot : (o : Option (Node F)) → at t.nodes i ≡ o → IsSome o
                by_slot None e =
                    let m = vacant_flat (at t.nodes i) (at mid i) (adopted.flat i) e in
                    let q = freed.vacant i m in let z = rw q at s in cc
                  where
                    vacant_flat : (x y : Option (Node F)) → option_map (with_up None) y ≡ option_map (with_up None) x → x ≡ None → y ≡ None
                    vacant_flat x None p q = refl
                    vacant_flat x (Some n) p q = let r = ap (option_map (with_up None)) q in cc
                by_slot (Some x) e = refl

            kept_all : (i : ℕ) → IsSome (at new i) → Holds (grafted trees.draft) i
            kept_all i s =
                elim (h.stands.all i (live_before i s)) [
                  | inl m ↦
                      elim (own-or-taken trees.current h.stands.reads (λ j k x. x) i m) [
                        | inl x ↦ let g = freed.gone i x in absurd (let z = rw g at s in cc)
                        | inr q ↦ takes-grafted trees.draft i q
                      ]
                  | inr m ↦ makes-grafted trees.draft i m
                ]
