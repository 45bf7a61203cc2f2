-- Each write, as the two trees see it.
use Rattle.std.proofs.Common.{Bool, true, false, eqb, cond, ◌≡◌, ◌≢◌, ◌<◌, ◌≤◌, ◌+◌, ◌^◌, ◌⊎◌, inl, inr, ℕ, refl, sym, ap, ◌∙◌, IsSome, Some, None, Option, Result, Ok, Err, OnErr, IfSome, option_map, eq-eqb, arith}
use Rattle.slab.specs.Slab.{slab_len}
use Rattle.rx_arena.specs.Nodes.{at, alternate_in, Keeps, Changes, with_child, with_alternate}
use Rattle.rx_arena.specs.declared.arena.Node.{Node}
use Rattle.rx_lists.specs.Changes.{Grows, Adds, IsAlone, child_node}
use Rattle.rx_lists.specs.Links.{child_at, child_under}
use Rattle.rx_lists.specs.Reads.{Nodes, core_of, core_at, up_in, up_at, alternate_at, node, Reads, limit}
use Rattle.rx_lists.specs.Shapes.{Shape, none, fiber, first, Holds, IsTop}
use Rattle.rx_lists.specs.Marks.{revalued}
use Rattle.rx_lists.proofs.Frames.{same_or_not, eqb-false, Reads-frame, Returns-frame, child-core, some-at, if-some, leads_or_not}
use Rattle.rx_links.specs.Drafts.{Draft, taken, made, Trees, entry, Makes, IsMadeOnce, IsFor, IsUnused, IsMadeList, IsEmpty, IsOpen, IsBare, rekidded, grown, taking, valued, old_kids, kids_under, IsOldKids, Follows}
use Rattle.rx_links.proofs.Parts.{HasKids}
use Rattle.rx_links.specs.Stands.{Drafts, Roots, Shows}
use Rattle.rx_links.proofs.Computed.{held-live, made-live}
use Rattle.rx_links.proofs.DraftFrames.{Drafts-frame, Drafts-alternate}
use Rattle.rx_links.proofs.Edits.{KidsFor, kids_for-for, kids-all, has-makes, makes-for, makes-kids, unused-not, old_of-is, IsOldAny, kids_under-is, top-any, any-below, has-held, top-kids, top-holds, keeps-for, news-for, IsFor-rekidded, Makes-rekidded, made_once-rekidded, follows-rekidded}
use Rattle.rx_links.proofs.Whole.{for-held, for-makes}

pub on-err : {X E : Type 0} (r : Result X E) (P : Type 0) → P → OnErr r P
on-err (Ok x) P p = tt
on-err (Err e) P p = p

module _ {F : Type 0} where
  pub entry-rekidded : (p : ℕ) (f : Draft F → Draft F) (w : Draft F) → entry (rekidded p f w) ≡ entry w
  entry-rekidded p f (taken s) = refl
  entry-rekidded p f (made id v o ks rs) = refl

  -- new children of a made fiber are read
  pub Drafts-rekidded : (old new : Nodes F) (p : ℕ) (f : Draft F → Draft F) (after q : Option ℕ) (w : Draft F) → IsMadeOnce w
      → ((i : ℕ) → Makes w i → i ≢ p → at new i ≡ at old i)
      → at new p ≡ option_map (with_child after) (at old p)
      → ((ks : Draft F) (v : F) (s u o : Option ℕ) → at old p ≡ Some (node v (entry ks) s u o) → Drafts new (Some p) ks → (entry (f ks) ≡ after) × Drafts new (Some p) (f ks))
      → Drafts old q w → Drafts new q (rekidded p f w)
  Drafts-rekidded old new p f after q (taken s) once same here h d = tt
  Drafts-rekidded old new p f after q (made id v o ks rs) once same here h d =
      by_case (same_or_not id p)
      (Drafts-rekidded old new p f after (Some id) ks once.3 (λ i m. same i (inr (inl m))) here h d.1)
      (Drafts-rekidded old new p f after q rs once.4 (λ i m. same i (inr (inr m))) here h d.2)
    where
      by_case : (id ≡ p) ⊎ (id ≢ p) → Drafts new (Some id) (rekidded p f ks) → Drafts new q (rekidded p f rs)
          → Drafts new q (made id v o (cond (eqb id p) (f ks) (rekidded p f ks)) (rekidded p f rs))
      by_case (inl e) one two =
          let k : at old p ≡ Some (node v (entry ks) (entry rs) q o) = rw e at d.0 in
          let n = Drafts-frame old new (Some p) ks (λ i m. same i (inr (inl m)) (λ z. once.0 (rw (e, ← z) m))) (rw e at d.1) in
          let r = h ks v (entry rs) q o k n in
          rw (eq-eqb id p e) (rw (e, here, k, r.0, entry-rekidded p f rs) refl, rw e r.1, two)
      by_case (inr e) one two =
          rw (eqb-false id p e) (rw (entry-rekidded p f ks, entry-rekidded p f rs) (same id (inl refl) e ∙ d.0), one, two)

  -- a made fiber's old one is in the current tree, and has the children that follow
  pub for-any : (c : Shape F) (w : Draft F) (p : ℕ) (o : Option ℕ) (ks : Draft F) → Follows c w → KidsFor w p o ks
      → (k : Shape F) × IsOldAny c o k × ((ks ≡ taken k) ⊎ Follows k ks)
  for-any c (taken s) p o ks f h = absurd h
  for-any c (made id v old ls rs) p o ks f (inl h) =
      (f.0.0, top-any c o f.0.0 (rw h.1 at f.0.1), rw h.2 at f.0.2)
  for-any c (made id v old ls rs) p o ks f (inr (inr h)) = for-any c rs p o ks f.1 h
  for-any c (made id v old ls rs) p o ks f (inr (inl h)) =
      elim f.0.2 [
        | inl e ↦ absurd (rw e at h)
        | inr g ↦ let r = for-any f.0.0 ls p o ks g h in (r.0, any-below c old o f.0.0 r.0 f.0.1 r.1, r.2)
      ]

  -- the old children are those of the old fiber
  pub old_kids-are : (t : Roots F) (trees : Trees F) (p : ℕ) (o : Option ℕ) (ks : Draft F) (k : Shape F) → Shows t trees
      → KidsFor trees.draft p o ks → IsOldAny trees.current o k → old_kids trees p ≡ k
  old_kids-are t trees p o ks k h m a =
      ap (kids_under trees.current) (old_of-is trees.draft p o h.stands.made_once (kids_for-for trees.draft p o ks m))
      ∙ kids_under-is trees.current o k h.stands.once a

  pub old_kids-held : (t : Roots F) (trees : Trees F) (p i : ℕ) → Shows t trees → Makes trees.draft p → Holds (old_kids trees p) i → Holds trees.current i
  old_kids-held t trees p i h m q =
      let k = makes-kids trees.draft p m in
      let a = for-any trees.current trees.draft p k.0 k.1 h.stands.follows k.2 in
      any-held k.0 a.0 a.1 (rw (old_kids-are t trees p k.0 k.1 a.0 h k.2 a.1) at q)
    where
      any-held : (o : Option ℕ) (k : Shape F) → IsOldAny trees.current o k → Holds k i → Holds trees.current i
      any-held None k a q = absurd (rw a at q)
      any-held (Some j) k a q = has-held trees.current j k i a q

  -- nodes that stay as they were show the same trees
  pub keeps-shows : (t : Roots F) (trees : Trees F) (new : Nodes F) → Shows t trees → Keeps t.nodes new → slab_len new ≡ slab_len t.nodes
      → Shows (record t { nodes = new }) trees
  keeps-shows t trees new h same count = record {
    stands = record {
      leads_current = h.stands.leads_current;
      leads_draft = h.stands.leads_draft;
      reads = Reads-frame t.nodes new trees.current (λ i _. ap (option_map core_of) (same i)) h.stands.reads;
      returns = Returns-frame t.nodes new None trees.current (λ i _. ap up_in (same i)) h.stands.returns;
      drafts = Drafts-frame t.nodes new None trees.draft (λ i _. same i) h.stands.drafts;
      once = h.stands.once;
      made_once = h.stands.made_once;
      apart = h.stands.apart;
      follows = h.stands.follows;
      back = λ i j f. ap alternate_in (same j) ∙ h.stands.back i j f;
      links = λ i j e. h.stands.links i j (sym (ap alternate_in (same i)) ∙ e);
      all = λ i s. h.stands.all i (rw (same i) at s);
    };
    small = omega (arith, count, h.small);
  }

  pub core-alternate : (x : Option ℕ) (s : Option (Node F)) → option_map core_of (option_map (with_alternate x) s) ≡ option_map core_of s
  core-alternate x None = refl
  core-alternate x (Some n) = refl

  pub up-alternate : (x : Option ℕ) (s : Option (Node F)) → up_in (option_map (with_alternate x) s) ≡ up_in s
  up-alternate x None = refl
  up-alternate x (Some n) = refl

  pub alternate-alternate : (x : Option ℕ) (s : Option (Node F)) → IsSome s → alternate_in (option_map (with_alternate x) s) ≡ x
  alternate-alternate x None h = cc
  alternate-alternate x (Some n) h = refl

  alternate-child : (x : Option ℕ) (s : Option (Node F)) → alternate_in (option_map (with_child x) s) ≡ alternate_in s
  alternate-child x None = refl
  alternate-child x (Some n) = refl

  alternate-new : (v : F) (p : ℕ) (x : Option ℕ) (s : Option (Node F)) → IsSome s → alternate_in (option_map (child_node v p x) s) ≡ x
  alternate-new v p x None h = cc
  alternate-new v p x (Some n) h = refl

  pub unused-alone : (t : Roots F) (trees : Trees F) (o : Option ℕ) → Shows t trees → IfSome o (Holds trees.current) → IfSome o (IsUnused trees.draft)
      → IfSome o (IsAlone t.nodes)
  unused-alone t trees o h held unused =
      if-some o _ (λ j e i l. elim (h.stands.links i j l) [
        | inl f ↦ unused-not trees.draft i j (some-at o _ j unused e) f
        | inr f ↦ h.stands.apart j (some-at o _ j held e) (for-makes trees.draft j (Some i) f)
      ])

  module _ (t : Roots F) (trees : Trees F) (new : Nodes F) (p id : ℕ) (v : F) (o : Option ℕ) (h : Shows t trees) (open_ : IsOpen trees.draft p)
      (held : IfSome o (IsTop (old_kids trees p))) (unused : IfSome o (IsUnused trees.draft)) (g : Grows t.nodes new p id v o) where
    abbrev adds : Draft F → Draft F
    adds ks = made id v o (taken none) ks

    makes_p : Makes trees.draft p
    makes_p = has-makes IsMadeList trees.draft p open_

    live_p : IsSome (at t.nodes p)
    live_p = made-live t trees.current trees.draft h.stands p makes_p

    vacant : (i : ℕ) → IsSome (at t.nodes i) → i ≢ id
    vacant i s e = let q = rw (e, g.vacant) at s in cc

    pub fresh_current : Holds trees.current id → ⊥
    fresh_current m = vacant id (held-live t trees.current trees.draft h.stands id m) refl

    pub fresh_draft : Makes trees.draft id → ⊥
    fresh_draft m = vacant id (made-live t trees.current trees.draft h.stands id m) refl

    pub old_held : (j : ℕ) → o ≡ Some j → Holds trees.current j
    old_held j e = old_kids-held t trees p j h makes_p (top-holds (old_kids trees p) j (some-at o _ j held e))

    not_p : (i : ℕ) → Holds trees.current i → i ≢ p
    not_p i m e = h.stands.apart i m (rw e makes_p)

    not_id : (i : ℕ) → Holds trees.current i → i ≢ id
    not_id i m = vacant i (held-live t trees.current trees.draft h.stands i m)

    other : (j : ℕ) → o ≡ Some j → at new j ≡ option_map (with_alternate (Some id)) (at t.nodes j)
    other j e = some-at o (λ j. at new j ≡ option_map (with_alternate (Some id)) (at t.nodes j)) j g.other e

    core_same : (i : ℕ) → Holds trees.current i → core_at new i ≡ core_at t.nodes i
    core_same i m =
        elim (leads_or_not o i) [
          | inl e ↦ ap (option_map core_of) (other i e) ∙ core-alternate (Some id) (at t.nodes i)
          | inr n ↦ ap (option_map core_of) (g.others i (not_id i m) (not_p i m) n)
        ]

    up_same : (i : ℕ) → Holds trees.current i → up_at new i ≡ up_at t.nodes i
    up_same i m =
        elim (leads_or_not o i) [
          | inl e ↦ ap up_in (other i e) ∙ up-alternate (Some id) (at t.nodes i)
          | inr n ↦ ap up_in (g.others i (not_id i m) (not_p i m) n)
        ]

    made_same : (i : ℕ) → Makes trees.draft i → i ≢ p → at new i ≡ at t.nodes i
    made_same i m n =
        g.others i (vacant i (made-live t trees.current trees.draft h.stands i m)) n (λ e. h.stands.apart i (old_held i e) m)

    keeps : (i : ℕ) (q : Option ℕ) → IsFor trees.draft i q → IsFor (grown p id v o trees.draft) i q
    keeps i q k = keeps-for p adds trees.draft i q (λ o2 ks m r. inr (inr r)) k

    keeps_made : (i : ℕ) → Makes trees.draft i → Makes (grown p id v o trees.draft) i
    keeps_made i m = let r = makes-for trees.draft i m in for-makes (grown p id v o trees.draft) i r.0 (keeps i r.0 r.1)

    news : IsFor (grown p id v o trees.draft) id o
    news = news-for p adds trees.draft id o (λ ks. inl (refl, refl)) makes_p

    only : (ks : Draft F) (i : ℕ) (q : Option ℕ) → IsFor (adds ks) i q → IsFor ks i q ⊎ ((i ≡ id) × (q ≡ o))
    only ks i q (inl e) = inr (e.0, sym e.1)
    only ks i q (inr (inl z)) = absurd z
    only ks i q (inr (inr y)) = inl y

    alternate_here : alternate_at new id ≡ o
    alternate_here = ap alternate_in g.made ∙ alternate-new v p o (at t.nodes p) live_p

    alternate_parent : alternate_at new p ≡ alternate_at t.nodes p
    alternate_parent = ap alternate_in g.parented ∙ alternate-child (Some id) (at t.nodes p)

    back_new : (i j : ℕ) → IsFor (grown p id v o trees.draft) i (Some j) → alternate_at new j ≡ Some i
    back_new i j f =
        elim (IsFor-rekidded p adds id o only trees.draft i (Some j) f) [
          | inl k ↦
              let m = for-held trees.current trees.draft i j h.stands.follows k in
              ap alternate_in (g.others j (not_id j m) (not_p j m) (λ e. unused-not trees.draft i j (some-at o _ j unused e) k)) ∙ h.stands.back i j k
          | inr k ↦
              let m = old_held j (sym k.1) in
              rw k.0 (ap alternate_in (other j (sym k.1)) ∙ alternate-alternate (Some id) (at t.nodes j) (held-live t trees.current trees.draft h.stands j m))
        ]

    kept_link : (i j : ℕ) → alternate_at t.nodes i ≡ Some j → IsFor (grown p id v o trees.draft) i (Some j) ⊎ IsFor (grown p id v o trees.draft) j (Some i)
    kept_link i j e = elim (h.stands.links i j e) [ inl k ↦ inl (keeps i (Some j) k) | inr k ↦ inr (keeps j (Some i) k) ]

    links_new : (i j : ℕ) → alternate_at new i ≡ Some j → IsFor (grown p id v o trees.draft) i (Some j) ⊎ IsFor (grown p id v o trees.draft) j (Some i)
    links_new i j e = by_case (same_or_not i id) (same_or_not i p) (leads_or_not o i)
      where
        by_case : (i ≡ id) ⊎ (i ≢ id) → (i ≡ p) ⊎ (i ≢ p) → (o ≡ Some i) ⊎ (o ≢ Some i)
            → IsFor (grown p id v o trees.draft) i (Some j) ⊎ IsFor (grown p id v o trees.draft) j (Some i)
        by_case (inl a) b c =
            let q : o ≡ Some j = sym alternate_here ∙ (rw a at e) in
            inl (rw (a, ← q) news)
        by_case (inr a) (inl b) c = kept_link i j (rw b (sym alternate_parent ∙ (rw b at e)))
        by_case (inr a) (inr b) (inl c) =
            let m = old_held i c in
            let x = sym (ap alternate_in (other i c) ∙ alternate-alternate (Some id) (at t.nodes i) (held-live t trees.current trees.draft h.stands i m)) ∙ e in
            let y : j ≡ id = cc in
            inr (rw (y, ← c) news)
        by_case (inr a) (inr b) (inr c) = kept_link i j (sym (ap alternate_in (g.others i a b c)) ∙ e)

    all_new : (i : ℕ) → IsSome (at new i) → Holds trees.current i ⊎ Makes (grown p id v o trees.draft) i
    all_new i s = by_case (same_or_not i id) (same_or_not i p) (leads_or_not o i)
      where
        by_case : (i ≡ id) ⊎ (i ≢ id) → (i ≡ p) ⊎ (i ≢ p) → (o ≡ Some i) ⊎ (o ≢ Some i) → Holds trees.current i ⊎ Makes (grown p id v o trees.draft) i
        by_case (inl a) b c = inr (rw a (for-makes (grown p id v o trees.draft) id o news))
        by_case (inr a) (inl b) c = inr (keeps_made i (rw b makes_p))
        by_case (inr a) (inr b) (inl c) = inl (old_held i c)
        by_case (inr a) (inr b) (inr c) = elim (h.stands.all i (rw (g.others i a b c) at s)) [ inl m ↦ inl m | inr m ↦ inr (keeps_made i m) ]

    follows_here : (o2 : Option ℕ) (ks : Draft F) (k : Shape F) → KidsFor trees.draft p o2 ks → IsOldAny trees.current o2 k → (ks ≡ taken k) ⊎ Follows k ks
        → (adds ks ≡ taken k) ⊎ Follows k (adds ks)
    follows_here o2 ks k m a f = inr (first_part o (λ j e. rw (old_kids-are t trees p o2 ks k h m a) at (some-at o _ j held e)), rest f)
      where
        first_part : (q : Option ℕ) → ((j : ℕ) → q ≡ Some j → IsTop k j) → (l : Shape F) × IsOldKids k q l × ((taken none ≡ taken l) ⊎ Follows l (taken none))
        first_part None top = (none, refl, inr refl)
        first_part (Some j) top = let r = top-kids k j (top j refl) in (r.0, r.1, inr refl)

        list : IsMadeList ks
        list = kids-all IsMadeList trees.draft p h.stands.made_once open_ o2 ks m

        rest : (ks ≡ taken k) ⊎ Follows k ks → Follows k ks
        rest (inl e) = let q = rw e at list in rw e q
        rest (inr x) = x

    pub grown-shows : slab_len t.nodes + 1 < 2 ^ 64 → Shows (record t { nodes = new }) (record trees { draft = grown p id v o trees.draft })
    unfolding limit
    grown-shows room = record {
      stands = record {
        leads_current = h.stands.leads_current;
        leads_draft = h.stands.leads_draft ∙ sym (entry-rekidded p adds trees.draft);
        reads = Reads-frame t.nodes new trees.current core_same h.stands.reads;
        returns = Returns-frame t.nodes new None trees.current up_same h.stands.returns;
        drafts = Drafts-rekidded t.nodes new p adds (Some id) None trees.draft h.stands.made_once made_same g.parented
            (λ ks u s q r e d. (refl, (rw (g.made, e) refl, tt, d))) h.stands.drafts;
        once = h.stands.once;
        made_once = made_once-rekidded p adds id o only (λ ks o2 n. (λ z. z, n, λ i z y. z, tt, o2)) trees.draft h.stands.made_once fresh_draft;
        apart = λ i a b. elim (Makes-rekidded p adds id o only trees.draft i b) [ inl q ↦ h.stands.apart i a q | inr q ↦ fresh_current (rw (← q.0) a) ];
        follows = follows-rekidded p adds trees.current trees.draft follows_here h.stands.follows;
        back = back_new;
        links = links_new;
        all = all_new;
      };
      small = omega (arith, g.live, room);
    }

  -- a draft that takes a list over at a made fiber
  module _ (p : ℕ) (k : Shape F) where
    abbrev takes : Draft F → Draft F
    takes ks = taken k

    only_taking : (ks : Draft F) (i : ℕ) (q : Option ℕ) → IsFor (takes ks) i q → IsFor ks i q ⊎ ((i ≡ limit) × (q ≡ None))
    only_taking ks i q m = absurd m

    pub for-taking : (w : Draft F) (i : ℕ) (q : Option ℕ) → IsFor (taking p k w) i q → IsFor w i q
    for-taking (taken s) i q h = h
    for-taking (made id v o ks rs) i q (inl h) = inl h
    for-taking (made id v o ks rs) i q (inr (inr h)) = inr (inr (for-taking rs i q h))
    for-taking (made id v o ks rs) i q (inr (inl h)) = inr (inl (by_test (eqb id p) (for-taking ks i q) h))
      where
        by_test : (b : Bool) → (IsFor (taking p k ks) i q → IsFor ks i q) → IsFor (cond b (taken k) (taking p k ks)) i q → IsFor ks i q
        by_test true ih m = absurd m
        by_test false ih m = ih m

    pub makes-taking : (w : Draft F) (i : ℕ) → Makes (taking p k w) i → Makes w i
    makes-taking w i m = let r = makes-for (taking p k w) i m in for-makes w i r.0 (for-taking w i r.0 r.1)

    pub once-taking : (w : Draft F) → IsMadeOnce w → IsMadeOnce (taking p k w)
    once-taking (taken s) h = tt
    once-taking (made id v o ks rs) h = by_test (eqb id p) (once-taking ks h.3) (once-taking rs h.4)
      where
        by_test : (b : Bool) → IsMadeOnce (taking p k ks) → IsMadeOnce (taking p k rs)
            → IsMadeOnce (made id v o (cond b (taken k) (taking p k ks)) (taking p k rs))
        by_test true one two = (λ m. m, λ m. h.1 (makes-taking rs id m), λ i a b. a, tt, two)
        by_test false one two = (
          λ m. h.0 (makes-taking ks id m),
          λ m. h.1 (makes-taking rs id m),
          λ i a b. h.2 i (makes-taking ks i a) (makes-taking rs i b),
          one,
          two,
        )

    pub Drafts-taking : (old new : Nodes F) (q : Option ℕ) (w : Draft F)
        → ((i : ℕ) → Makes (taking p k w) i → i ≢ p → at new i ≡ at old i)
        → at new p ≡ option_map (with_child (first k)) (at old p)
        → Drafts old q w → Drafts new q (taking p k w)
    Drafts-taking old new q (taken s) same here d = tt
    Drafts-taking old new q (made id v o ks rs) same here d =
        by_case (same_or_not id p)
        (λ e. Drafts-taking old new (Some id) ks (λ i m. same i (inr (inl (rw (eqb-false id p e) m)))) here d.1)
        (Drafts-taking old new q rs (λ i m. same i (inr (inr m))) here d.2)
      where
        by_case : (id ≡ p) ⊎ (id ≢ p) → (id ≢ p → Drafts new (Some id) (taking p k ks)) → Drafts new q (taking p k rs)
            → Drafts new q (made id v o (cond (eqb id p) (taken k) (taking p k ks)) (taking p k rs))
        by_case (inl e) one two =
            let x : at old p ≡ Some (node v (entry ks) (entry rs) q o) = rw e at d.0 in
            rw (eq-eqb id p e) (rw (e, here, x, entry-rekidded p takes rs) refl, tt, two)
        by_case (inr e) one two =
            rw (eqb-false id p e) (rw (entry-rekidded p takes ks, entry-rekidded p takes rs) (same id (inl refl) e ∙ d.0), one e, two)

    -- the changed draft, from what holds of the changed nodes
    pub record Taken (t : Roots F) (trees : Trees F) (new : Nodes F) : Type 0 where
      pub core_same : (i : ℕ) → Holds trees.current i → core_at new i ≡ core_at t.nodes i
      pub up_same : (i : ℕ) → Holds trees.current i → up_at new i ≡ up_at t.nodes i
      pub made_same : (i : ℕ) → Makes (taking p k trees.draft) i → i ≢ p → at new i ≡ at t.nodes i
      pub here : at new p ≡ option_map (with_child (first k)) (at t.nodes p)
      pub back : (i j : ℕ) → IsFor (taking p k trees.draft) i (Some j) → alternate_at new j ≡ Some i
      pub links : (i j : ℕ) → alternate_at new i ≡ Some j → IsFor (taking p k trees.draft) i (Some j) ⊎ IsFor (taking p k trees.draft) j (Some i)
      pub all : (i : ℕ) → IsSome (at new i) → Holds trees.current i ⊎ Makes (taking p k trees.draft) i
      pub follows : (o : Option ℕ) (ks : Draft F) (l : Shape F) → KidsFor trees.draft p o ks → IsOldAny trees.current o l → (taken k ≡ taken l) ⊎ Follows l (taken k)
      pub count : slab_len new ≤ slab_len t.nodes

    pub taken-shows : (t : Roots F) (trees : Trees F) (new : Nodes F) → Shows t trees → Taken t trees new
        → Shows (record t { nodes = new }) (record trees { draft = taking p k trees.draft })
    taken-shows t trees new h c = record {
      stands = record {
        leads_current = h.stands.leads_current;
        leads_draft = h.stands.leads_draft ∙ sym (entry-rekidded p takes trees.draft);
        reads = Reads-frame t.nodes new trees.current c.core_same h.stands.reads;
        returns = Returns-frame t.nodes new None trees.current c.up_same h.stands.returns;
        drafts = Drafts-taking t.nodes new None trees.draft c.made_same c.here h.stands.drafts;
        once = h.stands.once;
        made_once = once-taking trees.draft h.stands.made_once;
        apart = λ i a b. h.stands.apart i a (makes-taking trees.draft i b);
        follows = follows-rekidded p takes trees.current trees.draft (λ o ks l m a f. c.follows o ks l m a) h.stands.follows;
        back = c.back;
        links = c.links;
        all = c.all;
      };
      small = omega (arith, c.count, h.small);
    }

  -- the children of its old fiber are taken over by a made one that has none
  module _ (t : Roots F) (trees : Trees F) (new : Nodes F) (p : ℕ) (h : Shows t trees) (bare_ : IsBare trees.draft p)
      (ch : Changes (with_child (first (old_kids trees p))) t.nodes new p) where
    bare-keeps : (i : ℕ) (q : Option ℕ) → IsFor trees.draft i q → IsFor (taking p (old_kids trees p) trees.draft) i q
    bare-keeps i q f =
        keeps-for p (λ ks. taken (old_kids trees p)) trees.draft i q
        (λ o ks m r. let e = kids-all IsEmpty trees.draft p h.stands.made_once bare_ o ks m in absurd (rw e at r)) f

    bare-makes : (i : ℕ) → Makes trees.draft i → Makes (taking p (old_kids trees p) trees.draft) i
    bare-makes i m = let r = makes-for trees.draft i m in for-makes (taking p (old_kids trees p) trees.draft) i r.0 (bare-keeps i r.0 r.1)

    bare-p : Makes trees.draft p
    bare-p = has-makes IsEmpty trees.draft p bare_

    bare-alternate : (i : ℕ) → alternate_at new i ≡ alternate_at t.nodes i
    bare-alternate i = elim (same_or_not i p) [
      | inl e ↦ rw e (ap alternate_in ch.changed ∙ alternate-child (first (old_kids trees p)) (at t.nodes p))
      | inr n ↦ ap alternate_in (ch.others i n)
    ]

    pub over-shows : Shows (record t { nodes = new }) (record trees { draft = taking p (old_kids trees p) trees.draft })
    over-shows =
        taken-shows p (old_kids trees p) t trees new h
        (record {
          core_same = λ i m. ap (option_map core_of) (ch.others i (λ e. h.stands.apart i m (rw e bare-p)));
          up_same = λ i m. ap up_in (ch.others i (λ e. h.stands.apart i m (rw e bare-p)));
          made_same = λ i m n. ch.others i n;
          here = ch.changed;
          back = λ i j f. bare-alternate j ∙ h.stands.back i j (for-taking p (old_kids trees p) trees.draft i (Some j) f);
          links = λ i j e. elim (h.stands.links i j (sym (bare-alternate i) ∙ e)) [ inl f ↦ inl (bare-keeps i (Some j) f) | inr f ↦ inr (bare-keeps j (Some i) f) ];
          all = λ i s. elim (h.stands.all i (live_before i s)) [ inl m ↦ inl m | inr m ↦ inr (bare-makes i m) ];
          follows = λ o ks l m a. inl (ap taken (old_kids-are t trees p o ks l h m a));
          count = omega (arith, ch.live);
        })
      where
        live_before : (i : ℕ) → IsSome (at new i) → IsSome (at t.nodes i)
        live_before i s = elim (same_or_not i p) [ inl e ↦ rw e (made-live t trees.current trees.draft h.stands p bare-p) | inr n ↦ rw (ch.others i n) at s ]

  -- another value at a made fiber
  module _ (p : ℕ) (x : F → F) where
    entry-valued : (w : Draft F) → entry (valued p x w) ≡ entry w
    entry-valued (taken s) = refl
    entry-valued (made id v o ks rs) = refl

    for-valued : (w : Draft F) (i : ℕ) (q : Option ℕ) → IsFor (valued p x w) i q → IsFor w i q
    for-valued (taken s) i q h = h
    for-valued (made id v o ks rs) i q (inl h) = inl h
    for-valued (made id v o ks rs) i q (inr (inl h)) = inr (inl (for-valued ks i q h))
    for-valued (made id v o ks rs) i q (inr (inr h)) = inr (inr (for-valued rs i q h))

    valued-for : (w : Draft F) (i : ℕ) (q : Option ℕ) → IsFor w i q → IsFor (valued p x w) i q
    valued-for (taken s) i q h = h
    valued-for (made id v o ks rs) i q (inl h) = inl h
    valued-for (made id v o ks rs) i q (inr (inl h)) = inr (inl (valued-for ks i q h))
    valued-for (made id v o ks rs) i q (inr (inr h)) = inr (inr (valued-for rs i q h))

    makes-valued : (w : Draft F) (i : ℕ) → Makes (valued p x w) i → Makes w i
    makes-valued w i m = let r = makes-for (valued p x w) i m in for-makes w i r.0 (for-valued w i r.0 r.1)

    valued-makes : (w : Draft F) (i : ℕ) → Makes w i → Makes (valued p x w) i
    valued-makes w i m = let r = makes-for w i m in for-makes (valued p x w) i r.0 (valued-for w i r.0 r.1)

    once-valued : (w : Draft F) → IsMadeOnce w → IsMadeOnce (valued p x w)
    once-valued (taken s) h = tt
    once-valued (made id v o ks rs) h = (
      λ m. h.0 (makes-valued ks id m),
      λ m. h.1 (makes-valued rs id m),
      λ i a b. h.2 i (makes-valued ks i a) (makes-valued rs i b),
      once-valued ks h.3,
      once-valued rs h.4,
    )

    follows-valued : (c : Shape F) (w : Draft F) → Follows c w → Follows c (valued p x w)
    follows-valued c (taken s) f = f
    follows-valued c (made id v o ks rs) f = (
      (f.0.0, f.0.1, elim f.0.2 [ inl e ↦ inl (ap (valued p x) e) | inr g ↦ inr (follows-valued f.0.0 ks g) ]),
      follows-valued c rs f.1,
    )

    Drafts-valued : (old new : Nodes F) (q : Option ℕ) (w : Draft F) → ((i : ℕ) → i ≢ p → at new i ≡ at old i)
        → at new p ≡ option_map (revalued x) (at old p) → Drafts old q w → Drafts new q (valued p x w)
    Drafts-valued old new q (taken s) same here d = tt
    Drafts-valued old new q (made id v o ks rs) same here d =
        (by_case (same_or_not id p), Drafts-valued old new (Some id) ks same here d.1, Drafts-valued old new q rs same here d.2)
      where
        by_case : (id ≡ p) ⊎ (id ≢ p) → at new id ≡ Some (node (cond (eqb id p) (x v) v) (entry (valued p x ks)) (entry (valued p x rs)) q o)
        by_case (inl e) =
            let y : at old p ≡ Some (node v (entry ks) (entry rs) q o) = rw e at d.0 in
            rw (eq-eqb id p e, entry-valued ks, entry-valued rs) (rw (e, here, y) refl)
        by_case (inr e) = rw (eqb-false id p e, entry-valued ks, entry-valued rs) (same id e ∙ d.0)

    alternate-value : (s : Option (Node F)) → alternate_in (option_map (revalued x) s) ≡ alternate_in s
    alternate-value None = refl
    alternate-value (Some n) = refl

    pub value-shows : (t : Roots F) (trees : Trees F) (new : Nodes F) → Shows t trees → Makes trees.draft p → Changes (revalued x) t.nodes new p
        → Shows (record t { nodes = new }) (record trees { draft = valued p x trees.draft })
    value-shows t trees new h m ch = record {
      stands = record {
        leads_current = h.stands.leads_current;
        leads_draft = h.stands.leads_draft ∙ sym (entry-valued trees.draft);
        reads = Reads-frame t.nodes new trees.current (λ i q. ap (option_map core_of) (ch.others i (λ e. h.stands.apart i q (rw e m)))) h.stands.reads;
        returns = Returns-frame t.nodes new None trees.current (λ i q. ap up_in (ch.others i (λ e. h.stands.apart i q (rw e m)))) h.stands.returns;
        drafts = Drafts-valued t.nodes new None trees.draft ch.others ch.changed h.stands.drafts;
        once = h.stands.once;
        made_once = once-valued trees.draft h.stands.made_once;
        apart = λ i a b. h.stands.apart i a (makes-valued trees.draft i b);
        follows = follows-valued trees.current trees.draft h.stands.follows;
        back = λ i j f. alternate j ∙ h.stands.back i j (for-valued trees.draft i (Some j) f);
        links = λ i j e. elim (h.stands.links i j (sym (alternate i) ∙ e)) [ inl f ↦ inl (valued-for trees.draft i (Some j) f) | inr f ↦ inr (valued-for trees.draft j (Some i) f) ];
        all = λ i s. elim (h.stands.all i (live_before i s)) [ inl q ↦ inl q | inr q ↦ inr (valued-makes trees.draft i q) ];
      };
      small = omega (arith, ch.live, h.small);
    }
      where
        alternate : (i : ℕ) → alternate_at new i ≡ alternate_at t.nodes i
        alternate i = elim (same_or_not i p) [
          | inl e ↦ rw e (ap alternate_in ch.changed ∙ alternate-value (at t.nodes p))
          | inr n ↦ ap alternate_in (ch.others i n)
        ]

        live_before : (i : ℕ) → IsSome (at new i) → IsSome (at t.nodes i)
        live_before i s = elim (same_or_not i p) [ inl e ↦ rw e (made-live t trees.current trees.draft h.stands p m) | inr n ↦ rw (ch.others i n) at s ]

  pub root-held : (c : Shape F) → IfSome (first c) (Holds c)
  root-held none = tt
  root-held (fiber id v ks rs) = inl refl

  -- the root of a tree in progress
  pub added-shows : (t : Roots F) (c : Shape F) (new : Nodes F) (id : ℕ) (v : F) → Shows t (record { current = c; draft = taken none }) → Adds t.nodes new id v (first c)
      → slab_len t.nodes + 1 < limit
      → Shows (record { nodes = new; current = t.current; draft = Some id }) (record { current = c; draft = made id v (first c) (taken none) (taken none) })
  added-shows t c new id v h g room = record {
    stands = record {
      leads_current = h.stands.leads_current;
      leads_draft = refl;
      reads = Reads-frame t.nodes new c core_same h.stands.reads;
      returns = Returns-frame t.nodes new None c up_same h.stands.returns;
      drafts = (g.made, tt, tt);
      once = h.stands.once;
      made_once = (λ z. z, λ z. z, λ i z y. z, tt, tt);
      apart = λ i a m. elim m [ inl e ↦ not_id i a e | inr y ↦ elim y [ inl z ↦ z | inr z ↦ z ] ];
      follows = (follows_root c, refl);
      back = λ i j f. elim f [
        | inl e ↦ rw e.0 (ap alternate_in (other j e.1) ∙ alternate-alternate (Some id) (at t.nodes j) (live j (some-at (first c) (Holds c) j (root-held c) e.1)))
        | inr y ↦ elim y [ inl z ↦ absurd z | inr z ↦ absurd z ]
      ];
      links = links_new;
      all = all_new;
    };
    small = omega (arith, g.live, room);
  }
    where
      live : (i : ℕ) → Holds c i → IsSome (at t.nodes i)
      live i m = held-live t c (taken none) h.stands i m

      not_id : (i : ℕ) → Holds c i → i ≢ id
      not_id i m e = let s = live i m in let q = rw (e, g.vacant) at s in cc

      other : (j : ℕ) → first c ≡ Some j → at new j ≡ option_map (with_alternate (Some id)) (at t.nodes j)
      other j e = some-at (first c) (λ j. at new j ≡ option_map (with_alternate (Some id)) (at t.nodes j)) j g.other e

      core_same : (i : ℕ) → Holds c i → core_at new i ≡ core_at t.nodes i
      core_same i m =
          elim (leads_or_not (first c) i) [
            | inl e ↦ ap (option_map core_of) (other i e) ∙ core-alternate (Some id) (at t.nodes i)
            | inr n ↦ ap (option_map core_of) (g.others i (not_id i m) n)
          ]

      up_same : (i : ℕ) → Holds c i → up_at new i ≡ up_at t.nodes i
      up_same i m =
          elim (leads_or_not (first c) i) [
            | inl e ↦ ap up_in (other i e) ∙ up-alternate (Some id) (at t.nodes i)
            | inr n ↦ ap up_in (g.others i (not_id i m) n)
          ]

      follows_root : (d : Shape F) → (k : Shape F) × IsOldKids d (first d) k × ((taken none ≡ taken k) ⊎ Follows k (taken none))
      follows_root none = (none, refl, inr refl)
      follows_root (fiber jd u ls ts) = (ls, inl (refl, refl), inr refl)

      no_links : (i j : ℕ) → alternate_at t.nodes i ≡ Some j → ⊥
      no_links i j e = elim (h.stands.links i j e) [ inl z ↦ z | inr z ↦ z ]

      links_new : (i j : ℕ) → alternate_at new i ≡ Some j
          → IsFor (made id v (first c) (taken none) (taken none)) i (Some j) ⊎ IsFor (made id v (first c) (taken none) (taken none)) j (Some i)
      links_new i j e = by_case (same_or_not i id) (leads_or_not (first c) i)
        where
          by_case : (i ≡ id) ⊎ (i ≢ id) → (first c ≡ Some i) ⊎ (first c ≢ Some i)
              → IsFor (made id v (first c) (taken none) (taken none)) i (Some j) ⊎ IsFor (made id v (first c) (taken none) (taken none)) j (Some i)
          by_case (inl a) b = inl (inl (a, sym (ap alternate_in g.made) ∙ (rw a at e)))
          by_case (inr a) (inl b) =
              let x = sym (ap alternate_in (other i b) ∙ alternate-alternate (Some id) (at t.nodes i) (live i (some-at (first c) (Holds c) i (root-held c) b))) ∙ e in
              let y : j ≡ id = cc in
              inr (inl (y, b))
          by_case (inr a) (inr b) = absurd (no_links i j (sym (ap alternate_in (g.others i a b)) ∙ e))

      all_new : (i : ℕ) → IsSome (at new i) → Holds c i ⊎ Makes (made id v (first c) (taken none) (taken none)) i
      all_new i s = by_case (same_or_not i id) (leads_or_not (first c) i)
        where
          by_case : (i ≡ id) ⊎ (i ≢ id) → (first c ≡ Some i) ⊎ (first c ≢ Some i) → Holds c i ⊎ Makes (made id v (first c) (taken none) (taken none)) i
          by_case (inl a) b = inr (inl a)
          by_case (inr a) (inl b) = inl (some-at (first c) (Holds c) i (root-held c) b)
          by_case (inr a) (inr b) = elim (h.stands.all i (rw (g.others i a b) at s)) [ inl m ↦ inl m | inr m ↦ absurd m ]

  pub empty-shows : (new : Nodes F) → ((i : ℕ) → at new i ≡ None) → slab_len new ≡ 0
      → Shows (record { nodes = new; current = None; draft = None }) (record { current = none; draft = taken none })
  unfolding limit
  empty-shows new empty count = record {
    stands = record {
      leads_current = refl;
      leads_draft = refl;
      reads = tt;
      returns = tt;
      drafts = tt;
      once = tt;
      made_once = tt;
      apart = λ i a b. b;
      follows = refl;
      back = λ i j f. absurd f;
      links = λ i j e. let x = sym (ap alternate_in (empty i)) ∙ e in cc;
      all = λ i s. let x = rw (empty i) at s in cc;
    };
    small = omega (arith, count);
  }

  pub olds-held : (t : Roots F) (trees : Trees F) (p : ℕ) (o : Option ℕ) → Shows t trees → Makes trees.draft p → IfSome o (IsTop (old_kids trees p))
      → IfSome o (Holds trees.current)
  olds-held t trees p o h m top = if-some o _ (λ j e. old_kids-held t trees p j h m (top-holds (old_kids trees p) j (some-at o _ j top e)))

  pub olds-live : (t : Roots F) (trees : Trees F) (p : ℕ) (o : Option ℕ) → Shows t trees → Makes trees.draft p → IfSome o (IsTop (old_kids trees p))
      → IfSome o (λ j. IsSome (at t.nodes j))
  olds-live t trees p o h m top =
      if-some o _ (λ j e. held-live t trees.current trees.draft h.stands j (some-at o _ j (olds-held t trees p o h m top) e))

  pub olds-differ : (t : Roots F) (trees : Trees F) (p : ℕ) (o : Option ℕ) → Shows t trees → Makes trees.draft p → IfSome o (IsTop (old_kids trees p))
      → o ≢ Some p
  olds-differ t trees p o h m top e = h.stands.apart p (some-at o _ p (olds-held t trees p o h m top) e) m

  pub root-live : (t : Roots F) (trees : Trees F) → Shows t trees → IfSome t.current (λ j. IsSome (at t.nodes j))
  root-live t trees h =
      rw h.stands.leads_current
      (if-some (first trees.current) _ (λ j e. held-live t trees.current trees.draft h.stands j (some-at (first trees.current) _ j (root-held trees.current) e)))

  pub root-alone : (t : Roots F) (trees : Trees F) → trees.draft ≡ taken none → Shows t trees → IfSome t.current (IsAlone t.nodes)
  root-alone t trees none_made h =
      rw h.stands.leads_current
      (unused-alone t trees (first trees.current) h (root-held trees.current) (if-some (first trees.current) _ (λ j e. rw none_made tt)))

  pub root-shows : (t : Roots F) (trees : Trees F) (new : Nodes F) (id : ℕ) (v : F) → trees.draft ≡ taken none → Shows t trees → Adds t.nodes new id v t.current
      → slab_len t.nodes + 1 < 2 ^ 64
      → Shows (record { nodes = new; current = t.current; draft = Some id }) (record { current = trees.current; draft = made id v (first trees.current) (taken none) (taken none) })
  unfolding limit
  root-shows t trees new id v none_made h g room =
      added-shows t trees.current new id v (restated trees none_made h) (rw h.stands.leads_current at g) room
    where
      restated : (x : Trees F) → x.draft ≡ taken none → Shows t x → Shows t (record { current = x.current; draft = taken none })
      restated x e s = rw (← e) s

  -- the link to the old children
  pub old_link : (t : Roots F) (trees : Trees F) (p : ℕ) → Shows t trees → Makes trees.draft p → child_under t.nodes (alternate_at t.nodes p) ≡ first (old_kids trees p)
  old_link t trees p h m =
      let k = makes-kids trees.draft p m in
      let a = for-any trees.current trees.draft p k.0 k.1 h.stands.follows k.2 in
      ap (child_under t.nodes) (Drafts-alternate t.nodes None trees.draft p k.0 h.stands.drafts (kids_for-for trees.draft p k.0 k.1 k.2))
      ∙ under k.0 a.0 a.1
      ∙ sym (ap first (old_kids-are t trees p k.0 k.1 a.0 h k.2 a.1))
    where
      found : (c : Shape F) (j : ℕ) (l : Shape F) → Reads t.nodes c → HasKids c j l → child_at t.nodes j ≡ first l
      found none j l r q = absurd q
      found (fiber id v ks rs) j l r (inl q) = rw (← q.0, ← q.1) (child-core t.nodes id v (first ks) (first rs) r.0)
      found (fiber id v ks rs) j l r (inr (inl q)) = found ks j l r.1 q
      found (fiber id v ks rs) j l r (inr (inr q)) = found rs j l r.2 q

      under : (o : Option ℕ) (l : Shape F) → IsOldAny trees.current o l → child_under t.nodes o ≡ first l
      under None l q = rw q refl
      under (Some j) l q = found trees.current j l h.stands.reads q
