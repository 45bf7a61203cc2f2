-- The made fibers below one, or all of them, are released.
use Rattle.std.proofs.Common.{Bool, true, false, eqb, cond, ◌≡◌, ◌≢◌, ◌≤◌, ◌⊎◌, inl, inr, ℕ, refl, sym, ap, ◌∙◌, IsSome, Some, None, Option, option_map, eq-eqb, arith}
use Rattle.rx_arena.specs.Nodes.{at, alternate_in, Changes, with_child}
use Rattle.rx_arena.specs.declared.arena.Node.{Node}
use Rattle.rx_lists.specs.Freed.{own_part, own_list, own_link, IsReady, Frees}
use Rattle.rx_lists.specs.Links.{child_at, child_under, same_link, is_shared}
use Rattle.rx_lists.specs.Reads.{Nodes, core_of, up_in, alternate_at, Reads, limit, shape_of, IsRead}
use Rattle.rx_lists.specs.Shapes.{Shape, none, fiber, first, Holds, IsTree, size}
use Rattle.rx_lists.proofs.Frames.{same_or_not, eqb-false, Reads-frame, Returns-frame, child-core, shape_of-reads}
use Rattle.rx_lists.proofs.Freeing.{core-kept, up-kept, node-kept, live-kept, is-read}
use Rattle.rx_links.specs.Drafts.{Draft, taken, made, Trees, entry, Makes, IsMadeOnce, IsFor, HasMadeKids, grafted, taking, HasTop, IsOldKids, Follows}
use Rattle.rx_links.proofs.Parts.{made_part}
use Rattle.rx_links.specs.Stands.{Drafts, Roots, Shows}
use Rattle.rx_links.proofs.Computed.{made-live, whole, draft-small}
use Rattle.rx_links.proofs.Counts.{part-makes, makes-part}
use Rattle.rx_links.proofs.DraftFrames.{Drafts-alternate, old-read, first-grafted, Reads-grafted}
use Rattle.rx_links.proofs.Edits.{KidsFor, kids_for-makes, kids-all, makes-for, makes-kids, keeps-for, IsOldAny}
use Rattle.rx_links.proofs.Whole.{old-held, for-held, for-makes}
use Rattle.rx_links.proofs.Writes.{for-taking, makes-taking, taken-shows, for-any}

pub same_link-true : (o : Option ℕ) → same_link o o ≡ true
same_link-true None = refl
same_link-true (Some i) = eq-eqb i i refl

module _ {F : Type 0} where
  first-holds : (k : Shape F) (i : ℕ) → first k ≡ Some i → Holds k i
  first-holds none i e = cc
  first-holds (fiber id v ks rs) i e = inl (let q : i ≡ id = cc in q)

  top-child : (a : Nodes F) (c : Shape F) (j : ℕ) (k : Shape F) → Reads a c → HasTop c j k → child_at a j ≡ first k
  top-child a none j k r h = absurd h
  top-child a (fiber id v ks rs) j k r (inl h) = rw (← h.0, ← h.1) (child-core a id v (first ks) (first rs) r.0)
  top-child a (fiber id v ks rs) j k r (inr h) = top-child a rs j k r.2 h

  -- the old fiber's child link leads to its children
  pub old-link : (a : Nodes F) (c : Shape F) (o : Option ℕ) (k : Shape F) → Reads a c → IsOldKids c o k → child_under a o ≡ first k
  old-link a c None k r h = rw h refl
  old-link a c (Some j) k r h = top-child a c j k r h

  -- made children lead elsewhere than the old ones
  pub links-differ : (k : Shape F) (id : ℕ) → (Holds k id → ⊥) → same_link (Some id) (first k) ≡ false
  links-differ none id n = refl
  links-differ (fiber jd u ls ts) id n = eqb-false id jd (λ e. n (inl e))

  -- of the children of a made fiber, those that no alternate has too are the made ones
  pub own-kids : (a : Nodes F) (sh : Bool) (k : Shape F) (ks : Draft F) → sh ≡ same_link (entry ks) (first k) → (ks ≡ taken k) ⊎ Follows k ks
      → ((i : ℕ) → Holds k i → Makes ks i → ⊥) → (Follows k ks → own_part a (grafted ks) ≡ made_part ks)
      → cond sh none (own_part a (grafted ks)) ≡ made_part ks
  own-kids a sh k (taken s) e (inl f) n ih =
      let same : s ≡ k = cc in
      rw (e, same, same_link-true (first k)) refl
  own-kids a sh k (taken s) e (inr g) n ih = rw g (by_test sh)
    where
      by_test : (b : Bool) → cond b none (own_part a none) ≡ none
      by_test true = refl
      by_test false = refl
  own-kids a sh k (made id v o ls rs) e (inl f) n ih = cc
  own-kids a sh k (made id v o ls rs) e (inr g) n ih = rw (e, links-differ k id (λ h. n id h (inl refl))) (ih g)

  -- the part of the draft that no alternate has too is what is made
  pub own-draft : (a : Nodes F) (c : Shape F) (q : Option ℕ) (w : Draft F) → Reads a c → Follows c w → Drafts a q w → ((i : ℕ) → Holds c i → Makes w i → ⊥)
      → own_part a (grafted w) ≡ made_part w
  own-draft a c q (taken s) r f d n = rw f refl
  own-draft a c q (made id v o ks rs) r f d n =
      rw (
        own-draft a c q rs r f.1 d.2 (λ i h m. n i h (inr (inr m))),
        own-kids a (is_shared a id) f.0.0 ks (rw (d.0, old-link a c o f.0.0 r f.0.1) refl) f.0.2
            (λ i h m. n i (old-held c o f.0.0 i f.0.1 h) (inr (inl m)))
            (λ g. own-draft a f.0.0 (Some id) ks (old-read a c o f.0.0 r f.0.1) g d.1 (λ i h m. n i (old-held c o f.0.0 i f.0.1 h) (inr (inl m)))),
      )
      refl

  pub any-link : (a : Nodes F) (c : Shape F) (o : Option ℕ) (k : Shape F) → Reads a c → IsOldAny c o k → child_under a o ≡ first k
  any-link a c None k r h = rw h refl
  any-link a none (Some j) k r h = absurd h
  any-link a (fiber id v ks rs) (Some j) k r (inl h) = rw (← h.0, ← h.1) (child-core a id v (first ks) (first rs) r.0)
  any-link a (fiber id v ks rs) (Some j) k r (inr (inl h)) = any-link a ks (Some j) k r.1 h
  any-link a (fiber id v ks rs) (Some j) k r (inr (inr h)) = any-link a rs (Some j) k r.2 h

  any-read : (a : Nodes F) (c : Shape F) (o : Option ℕ) (k : Shape F) → Reads a c → IsOldAny c o k → Reads a k
  any-read a c None k r h = rw h tt
  any-read a none (Some j) k r h = absurd h
  any-read a (fiber id v ks rs) (Some j) k r (inl h) = rw (← h.1) r.1
  any-read a (fiber id v ks rs) (Some j) k r (inr (inl h)) = any-read a ks (Some j) k r.1 h
  any-read a (fiber id v ks rs) (Some j) k r (inr (inr h)) = any-read a rs (Some j) k r.2 h

  any-held : (c : Shape F) (o : Option ℕ) (k : Shape F) (i : ℕ) → IsOldAny c o k → Holds k i → Holds c i
  any-held c None k i h m = absurd (rw h at m)
  any-held none (Some j) k i h m = absurd h
  any-held (fiber id v ks rs) (Some j) k i (inl h) m = inr (inl (rw h.1 m))
  any-held (fiber id v ks rs) (Some j) k i (inr (inl h)) m = inr (inl (any-held ks (Some j) k i h m))
  any-held (fiber id v ks rs) (Some j) k i (inr (inr h)) m = inr (inr (any-held rs (Some j) k i h m))

  -- the node of a made fiber with these children
  pub record MadeNode (a : Nodes F) (p : ℕ) (o : Option ℕ) (ks : Draft F) : Type 0 where
    pub child : child_at a p ≡ entry ks
    pub alternate : alternate_at a p ≡ o
    pub drafts : Drafts a (Some p) ks

  pub made-node : (a : Nodes F) (q : Option ℕ) (w : Draft F) (p : ℕ) (o : Option ℕ) (ks : Draft F) → Drafts a q w → KidsFor w p o ks → MadeNode a p o ks
  made-node a q (taken s) p o ks d h = absurd h
  made-node a q (made id v old ls rs) p o ks d (inl h) =
      rw (h.0, ← h.1, ← h.2) (record { child = rw d.0 refl; alternate = rw d.0 refl; drafts = d.1 })
  made-node a q (made id v old ls rs) p o ks d (inr (inl h)) = made-node a (Some id) ls p o ks d.1 h
  made-node a q (made id v old ls rs) p o ks d (inr (inr h)) = made-node a q rs p o ks d.2 h

  kids-size : (w : Draft F) (p : ℕ) (o : Option ℕ) (ks : Draft F) → KidsFor w p o ks → size (grafted ks) ≤ size (grafted w)
  kids-size (taken s) p o ks h = absurd h
  kids-size (made id v old ls rs) p o ks (inl h) = rw (← h.2) (omega arith)
  kids-size (made id v old ls rs) p o ks (inr (inl h)) = omega (arith, kids-size ls p o ks h)
  kids-size (made id v old ls rs) p o ks (inr (inr h)) = omega (arith, kids-size rs p o ks h)

  kids-tree : (w : Draft F) (p : ℕ) (o : Option ℕ) (ks : Draft F) → IsTree (grafted w) → KidsFor w p o ks → IsTree (grafted ks)
  kids-tree (taken s) p o ks t h = absurd h
  kids-tree (made id v old ls rs) p o ks t (inl h) = rw (← h.2) t.3
  kids-tree (made id v old ls rs) p o ks t (inr (inl h)) = kids-tree ls p o ks t.3 h
  kids-tree (made id v old ls rs) p o ks t (inr (inr h)) = kids-tree rs p o ks t.4 h

  -- what is made below a made fiber
  pub kids-makes : (w : Draft F) (p : ℕ) (o : Option ℕ) (ks : Draft F) (i : ℕ) → KidsFor w p o ks → Makes ks i → Makes w i
  kids-makes (taken s) p o ks i h m = absurd h
  kids-makes (made id v old ls rs) p o ks i (inl h) m = inr (inl (rw h.2 m))
  kids-makes (made id v old ls rs) p o ks i (inr (inl h)) m = inr (inl (kids-makes ls p o ks i h m))
  kids-makes (made id v old ls rs) p o ks i (inr (inr h)) m = inr (inr (kids-makes rs p o ks i h m))

  -- the fiber itself is not made below it
  kids-not : (w : Draft F) (p : ℕ) (o : Option ℕ) (ks : Draft F) → IsMadeOnce w → KidsFor w p o ks → Makes ks p → ⊥
  kids-not (taken s) p o ks t h m = absurd h
  kids-not (made id v old ls rs) p o ks t (inl h) m = t.0 (rw (← h.0, h.2) m)
  kids-not (made id v old ls rs) p o ks t (inr (inl h)) m = kids-not ls p o ks t.3 h m
  kids-not (made id v old ls rs) p o ks t (inr (inr h)) m = kids-not rs p o ks t.4 h m

  -- what is made below is no longer, once the children are taken over or dropped
  taking-not : (w : Draft F) (p : ℕ) (k : Shape F) (o : Option ℕ) (ks : Draft F) (i : ℕ) → IsMadeOnce w → KidsFor w p o ks → Makes ks i → Makes (taking p k w) i → ⊥
  taking-not (taken s) p k o ks i t h m n = absurd h
  taking-not (made id v old ls rs) p k o ks i t (inl h) m (inl e) = t.0 (rw (← e, h.2) m)
  taking-not (made id v old ls rs) p k o ks i t (inl h) m (inr (inl n)) = absurd (rw (eq-eqb id p (sym h.0)) at n)
  taking-not (made id v old ls rs) p k o ks i t (inl h) m (inr (inr n)) = t.2 i (rw h.2 m) (makes-taking p k rs i n)
  taking-not (made id v old ls rs) p k o ks i t (inr (inl h)) m (inl e) = t.0 (rw e at (kids-makes ls p o ks i h m))
  taking-not (made id v old ls rs) p k o ks i t (inr (inl h)) m (inr (inl n)) =
      taking-not ls p k o ks i t.3 h m (rw (eqb-false id p (λ e. t.0 (rw e (kids_for-makes ls p o ks h)))) at n)
  taking-not (made id v old ls rs) p k o ks i t (inr (inl h)) m (inr (inr n)) = t.2 i (kids-makes ls p o ks i h m) (makes-taking p k rs i n)
  taking-not (made id v old ls rs) p k o ks i t (inr (inr h)) m (inl e) = t.1 (rw e at (kids-makes rs p o ks i h m))
  taking-not (made id v old ls rs) p k o ks i t (inr (inr h)) m (inr (inl n)) = t.2 i (for_kids n) (kids-makes rs p o ks i h m)
    where
      for_kids : Makes (cond (eqb id p) (taken k) (taking p k ls)) i → Makes ls i
      for_kids x = by_test (eqb id p) x
        where
          by_test : (b : Bool) → Makes (cond b (taken k) (taking p k ls)) i → Makes ls i
          by_test true y = absurd y
          by_test false y = makes-taking p k ls i y
  taking-not (made id v old ls rs) p k o ks i t (inr (inr h)) m (inr (inr n)) = taking-not rs p k o ks i t.4 h m n

  kids-one : (w : Draft F) (p : ℕ) (o q : Option ℕ) (ks ls : Draft F) → IsMadeOnce w → KidsFor w p o ks → KidsFor w p q ls → ks ≡ ls
  kids-one w p o q ks ls t h g = kids-all (λ x. ks ≡ x) w p t (has w h) q ls g
    where
      has : (x : Draft F) → KidsFor x p o ks → HasMadeKids (λ y. ks ≡ y) x p
      has (taken s) k = k
      has (made id v old ms rs) (inl k) = inl (k.0, sym k.2)
      has (made id v old ms rs) (inr (inl k)) = inr (inl (has ms k))
      has (made id v old ms rs) (inr (inr k)) = inr (inr (has rs k))

  module _ (t : Roots F) (trees : Trees F) (p : ℕ) (h : Shows t trees) (m : Makes trees.draft p) where
    kd : (o : Option ℕ) × (ks : Draft F) × KidsFor trees.draft p o ks
    kd = makes-kids trees.draft p m

    kids : Draft F
    kids = kd.1

    mine : KidsFor trees.draft p kd.0 kids
    unfolding kids
    mine = kd.2

    old : (k : Shape F) × IsOldAny trees.current kd.0 k × ((kids ≡ taken k) ⊎ Follows k kids)
    old = for-any trees.current trees.draft p kd.0 kids h.stands.follows mine

    n : MadeNode t.nodes p kd.0 kids
    n = made-node t.nodes None trees.draft p kd.0 kids h.stands.drafts mine

    old_read : Reads t.nodes old.0
    old_read = any-read t.nodes trees.current kd.0 old.0 h.stands.reads old.1

    old_apart : (i : ℕ) → Holds old.0 i → Makes kids i → ⊥
    old_apart i a b = h.stands.apart i (any-held trees.current kd.0 old.0 i old.1 a) (kids-makes trees.draft p kd.0 kids i mine b)

    grafted_read : Reads t.nodes (grafted kids)
    grafted_read = elim old.2 [ inl e ↦ rw e old_read | inr g ↦ let d = n.drafts in Reads-grafted t.nodes old.0 (Some p) kids old_read g d ]

    grafted_shape : shape_of limit t.nodes (entry kids) ≡ grafted kids
    grafted_shape =
        ap (shape_of limit t.nodes) (sym (first-grafted kids))
        ∙ shape_of-reads limit t.nodes (grafted kids) grafted_read (omega (arith, kids-size trees.draft p kd.0 kids mine, draft-small t trees h))

    own : cond (is_shared t.nodes p) none (own_part t.nodes (grafted kids)) ≡ made_part kids
    own =
        let ch = n.child in
        let al = n.alternate in
        own-kids t.nodes (is_shared t.nodes p) old.0 kids (rw (ch, al, any-link t.nodes trees.current kd.0 old.0 h.stands.reads old.1) refl) old.2 old_apart
        (λ g. let d = n.drafts in own-draft t.nodes old.0 (Some p) kids old_read g d old_apart)

    own_shape : shape_of limit t.nodes (own_link t.nodes p) ≡ cond (is_shared t.nodes p) none (grafted kids)
    own_shape = by_test (is_shared t.nodes p)
      where
        by_test : (b : Bool) → shape_of limit t.nodes (cond b None (child_at t.nodes p)) ≡ cond b none (grafted kids)
        by_test true = shape_of-reads limit t.nodes none tt (omega arith)
        by_test false = let ch = n.child in rw ch grafted_shape

    own_made : own_list t.nodes (own_link t.nodes p) ≡ made_part kids
    own_made = ap (own_part t.nodes) own_shape ∙ by_test (is_shared t.nodes p) own
      where
        by_test : (b : Bool) → cond b none (own_part t.nodes (grafted kids)) ≡ made_part kids → own_part t.nodes (cond b none (grafted kids)) ≡ made_part kids
        by_test true e = e
        by_test false e = e

    pub drop-ready : IsReady t.nodes (own_link t.nodes p)
    drop-ready = record {
      read = by_test (is_shared t.nodes p);
      once = rw own_shape (tree (is_shared t.nodes p));
      apart = λ i j a e b. clash i j (part-makes kids i (rw own_made at a)) e (part-makes kids j (rw own_made at b));
    }
      where
        by_test : (b : Bool) → IsRead t.nodes (cond b None (child_at t.nodes p))
        by_test true = is-read t.nodes none tt (omega arith)
        by_test false =
            let ch = n.child in
            rw (ch, ← first-grafted kids)
            (is-read t.nodes (grafted kids) grafted_read (omega (arith, kids-size trees.draft p kd.0 kids mine, draft-small t trees h)))

        tree : (b : Bool) → IsTree (cond b none (grafted kids))
        tree true = tt
        tree false = kids-tree trees.draft p kd.0 kids (whole t trees.current trees.draft h.stands) mine

        clash : (i j : ℕ) → Makes kids i → alternate_at t.nodes i ≡ Some j → Makes kids j → ⊥
        clash i j a e b =
            elim (h.stands.links i j e) [
              | inl f ↦ h.stands.apart j (for-held trees.current trees.draft i j h.stands.follows f) (kids-makes trees.draft p kd.0 kids j mine b)
              | inr f ↦ h.stands.apart i (for-held trees.current trees.draft j i h.stands.follows f) (kids-makes trees.draft p kd.0 kids i mine a)
            ]

    pub dropped-live : (mid : Nodes F) → Frees t.nodes mid (Holds (own_list t.nodes (own_link t.nodes p))) → IsSome (at mid p)
    dropped-live mid f =
        live-kept t.nodes mid p
        (f.kept p (λ b. kids-not trees.draft p kd.0 kids h.stands.made_once mine (part-makes kids p (rw own_made at b))))
        (made-live t trees.current trees.draft h.stands p m)

    module _ (mid new : Nodes F) (freed_ : Frees t.nodes mid (Holds (own_list t.nodes (own_link t.nodes p)))) (ch : Changes (with_child None) mid new p) where
      freed : Frees t.nodes mid (Holds (made_part kids))
      freed = rw own_made at freed_

      -- a fiber that stays
      stays_current : (i : ℕ) → Holds trees.current i → Holds (made_part kids) i → ⊥
      stays_current i a b = h.stands.apart i a (kids-makes trees.draft p kd.0 kids i mine (part-makes kids i b))

      stays_made : (i : ℕ) → Makes (taking p none trees.draft) i → Holds (made_part kids) i → ⊥
      stays_made i a b = taking-not trees.draft p none kd.0 kids i h.stands.made_once mine (part-makes kids i b) a

      stays_p : Holds (made_part kids) p → ⊥
      stays_p b = kids-not trees.draft p kd.0 kids h.stands.made_once mine (part-makes kids p b)

      not_p : (i : ℕ) → Holds trees.current i → i ≢ p
      not_p i a e = h.stands.apart i a (rw e m)

      -- the alternate link of a made fiber that stays
      made_alternate : (i : ℕ) → Makes trees.draft i → (Holds (made_part kids) i → ⊥) → alternate_at mid i ≡ alternate_at t.nodes i
      made_alternate i a s =
          let r = makes-for trees.draft i a in
          let al = Drafts-alternate t.nodes None trees.draft i r.0 h.stands.drafts r.1 in
          by_old r.0 r.1 al
        where
          none_left : (x : Option ℕ) → alternate_at mid i ≡ x → alternate_at t.nodes i ≡ None → x ≡ None
          none_left None q e = refl
          none_left (Some j) q e = let r = freed.cuts i j q in let z = r.0 in cc

          by_old : (o : Option ℕ) → IsFor trees.draft i o → alternate_at t.nodes i ≡ o → alternate_at mid i ≡ alternate_at t.nodes i
          by_old None f al = none_left (alternate_at mid i) refl al ∙ sym al
          by_old (Some j) f al =
              freed.stays i j s (stays_current j (for-held trees.current trees.draft i j h.stands.follows f)) al ∙ sym al

      made_kept : (i : ℕ) → Makes trees.draft i → (Holds (made_part kids) i → ⊥) → at mid i ≡ at t.nodes i
      made_kept i a s = node-kept t.nodes mid i (freed.kept i s) (made_alternate i a s)

      alternate_new : (i : ℕ) → alternate_at new i ≡ alternate_at mid i
      alternate_new i = elim (same_or_not i p) [ inl e ↦ rw e (ap alternate_in ch.changed ∙ slot (at mid p)) | inr k ↦ ap alternate_in (ch.others i k) ]
        where
          slot : (o : Option (Node F)) → alternate_in (option_map (with_child None) o) ≡ alternate_in o
          slot None = refl
          slot (Some x) = refl

      live_mid : (i : ℕ) → IsSome (at new i) → IsSome (at mid i)
      live_mid i s = elim (same_or_not i p) [
        | inl e ↦ rw (e, made_kept p m stays_p) (made-live t trees.current trees.draft h.stands p m)
        | inr k ↦ rw (ch.others i k) at s
      ]

      gone_not : (i : ℕ) → IsSome (at mid i) → Holds (made_part kids) i → ⊥
      gone_not i s b = let e = freed.gone i b in let q = rw e at s in cc

      -- what stays is still made
      keeps_for : (i : ℕ) (q : Option ℕ) → IsFor trees.draft i q → (Holds (made_part kids) i → ⊥) → IsFor (taking p none trees.draft) i q
      keeps_for i q f s =
          keeps-for p (λ ks. taken none) trees.draft i q
          (λ o ks g r.
          let same = kids-one trees.draft p o kd.0 ks kids h.stands.made_once g mine in
          absurd (s (makes-part kids i (for-makes kids i q (rw same at r))))) f

      live_old : (i : ℕ) → IsSome (at mid i) → IsSome (at t.nodes i)
      live_old i s = by_slot (at t.nodes i) refl
        where
          by_slot : (o : Option (Node F)) → at t.nodes i ≡ o → IsSome o
          by_slot None e = let q = freed.vacant i e in let z = rw q at s in cc
          by_slot (Some x) e = refl

      linked_live : (i j : ℕ) → alternate_at mid i ≡ Some j → IsSome (at mid i)
      linked_live i j e = by_slot (at mid i) e
        where
          by_slot : (o : Option (Node F)) → alternate_in o ≡ Some j → IsSome o
          by_slot None q = cc
          by_slot (Some x) q = refl

      pub dropped-shows : Shows (record t { nodes = new }) (record trees { draft = taking p none trees.draft })
      dropped-shows =
          taken-shows p none t trees new h
          (record {
            core_same = λ i a. ap (option_map core_of) (ch.others i (not_p i a)) ∙ core-kept t.nodes mid i (freed.kept i (stays_current i a));
            up_same = λ i a. ap up_in (ch.others i (not_p i a)) ∙ up-kept t.nodes mid i (freed.kept i (stays_current i a));
            made_same = λ i a k. ch.others i k ∙ made_kept i (makes-taking p none trees.draft i a) (stays_made i a);
            here = ch.changed ∙ ap (option_map (with_child None)) (made_kept p m stays_p);
            back = λ i j f.
                let g = for-taking p none trees.draft i (Some j) f in
                alternate_new j
                ∙ freed.stays j i (stays_current j (for-held trees.current trees.draft i j h.stands.follows g)) (stays_made i (for-makes (taking p none trees.draft) i (Some j) f)) (h.stands.back i j g);
            links = λ i j e.
                let q = sym (alternate_new i) ∙ e in
                let r = freed.cuts i j q in
                elim (h.stands.links i j r.0) [
                  | inl f ↦ inl (keeps_for i (Some j) f (gone_not i (linked_live i j q)))
                  | inr f ↦ inr (keeps_for j (Some i) f r.1)
                ];
            all = λ i s.
                let l = live_mid i s in
                elim (h.stands.all i (live_old i l)) [
                  | inl a ↦ inl a
                  | inr a ↦ let r = makes-for trees.draft i a in inr (for-makes (taking p none trees.draft) i r.0 (keeps_for i r.0 r.1 (gone_not i l)))
                ];
            follows = λ o ks l g a. inr refl;
            count = omega (arith, ch.live, freed.count);
          })

  -- the whole tree in progress is released
  module _ (t : Roots F) (trees : Trees F) (h : Shows t trees) where
    draft_read : Reads t.nodes (grafted trees.draft)
    draft_read = Reads-grafted t.nodes trees.current None trees.draft h.stands.reads h.stands.follows h.stands.drafts

    draft_shape : shape_of limit t.nodes t.draft ≡ grafted trees.draft
    draft_shape =
        ap (shape_of limit t.nodes) (h.stands.leads_draft ∙ sym (first-grafted trees.draft))
        ∙ shape_of-reads limit t.nodes (grafted trees.draft) draft_read (draft-small t trees h)

    draft_made : own_list t.nodes t.draft ≡ made_part trees.draft
    draft_made =
        ap (own_part t.nodes) draft_shape
        ∙ own-draft t.nodes trees.current None trees.draft h.stands.reads h.stands.follows h.stands.drafts h.stands.apart

    pub discard-ready : IsReady t.nodes t.draft
    discard-ready = record {
      read = rw (h.stands.leads_draft, ← first-grafted trees.draft) (is-read t.nodes (grafted trees.draft) draft_read (draft-small t trees h));
      once = rw draft_shape (whole t trees.current trees.draft h.stands);
      apart = λ i j a e b.
          let x = part-makes trees.draft i (rw draft_made at a) in
          let y = part-makes trees.draft j (rw draft_made at b) in
          elim (h.stands.links i j e) [
            | inl f ↦ h.stands.apart j (for-held trees.current trees.draft i j h.stands.follows f) y
            | inr f ↦ h.stands.apart i (for-held trees.current trees.draft j i h.stands.follows f) x
          ];
    }

    pub discarded-shows : (new : Nodes F) → Frees t.nodes new (Holds (own_list t.nodes t.draft))
        → Shows (record { nodes = new; current = t.current; draft = None }) (record trees { draft = taken none })
    discarded-shows new freed_ = record {
      stands = record {
        leads_current = h.stands.leads_current;
        leads_draft = refl;
        reads = Reads-frame t.nodes new trees.current (λ i a. core-kept t.nodes new i (freed.kept i (stays i a))) h.stands.reads;
        returns = Returns-frame t.nodes new None trees.current (λ i a. up-kept t.nodes new i (freed.kept i (stays i a))) h.stands.returns;
        drafts = tt;
        once = h.stands.once;
        made_once = tt;
        apart = λ i a b. b;
        follows = refl;
        back = λ i j f. absurd f;
        links = λ i j e.
            let r = freed.cuts i j e in
            absurd (elim (h.stands.links i j r.0) [
              | inl f ↦ linked i j e (freed.gone i (makes-part trees.draft i (for-makes trees.draft i (Some j) f)))
              | inr f ↦ r.1 (makes-part trees.draft j (for-makes trees.draft j (Some i) f))
            ]);
        all = λ i s. inl (by_slot i s (at t.nodes i) refl);
      };
      small = omega (arith, freed.count, h.small);
    }
      where
        freed : Frees t.nodes new (Holds (made_part trees.draft))
        freed = rw draft_made at freed_

        stays : (i : ℕ) → Holds trees.current i → Holds (made_part trees.draft) i → ⊥
        stays i a b = h.stands.apart i a (part-makes trees.draft i b)

        linked : (i j : ℕ) → alternate_at new i ≡ Some j → at new i ≡ None → ⊥
        linked i j e g = let q = ap alternate_in g in cc

        by_slot : (i : ℕ) → IsSome (at new i) → (o : Option (Node F)) → at t.nodes i ≡ o → Holds trees.current i
        by_slot i s None e = let q = freed.vacant i e in let z = rw q at s in cc
        by_slot i s (Some x) e = elim (h.stands.all i (rw e refl)) [
          | inl a ↦ a
          | inr a ↦ let q = freed.gone i (makes-part trees.draft i a) in absurd (let z = rw q at s in cc)
        ]
