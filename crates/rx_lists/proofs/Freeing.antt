-- Lists are released, fiber by fiber.
use Rattle.std.proofs.Common.{Bool, true, false, eqb, cond, ◌≡◌, ◌≢◌, ◌<◌, ◌≤◌, ◌+◌, ◌⊎◌, inl, inr, ℕ, refl, sym, ap, ◌∙◌, IsSome, Some, None, Option, IfSome, option_map, eq-eqb, eqb-true, arith}
use Rattle.rx_arena.specs.Nodes.{at, alternate_in, cut, without, with_alternate, Releases}
use Rattle.rx_arena.specs.declared.arena.Node.{Node}
use Rattle.rx_lists.specs.Freed.{own_part, own_list, own_in, own_link, IsReady, bare_at, Frees}
use Rattle.rx_lists.specs.Links.{child_in, child_at, is_shared}
use Rattle.rx_lists.specs.Reads.{Nodes, core, core_of, core_at, up_in, up_at, alternate_at, Reads, limit, shape_of, IsRead}
use Rattle.rx_lists.specs.Shapes.{Shape, none, fiber, first, Holds, IsTree, size}
use Rattle.rx_lists.proofs.Frames.{same_or_not, Reads-frame, child-core, core-live, shape_of-reads}

cut-some : (id : ℕ) (o : Option ℕ) (j : ℕ) → cut id o ≡ Some j → (o ≡ Some j) × (j ≢ id)
cut-some id None j e = cc
cut-some id (Some k) j e = by_test (eqb k id) refl e
  where
    by_test : (b : Bool) → eqb k id ≡ b → cond b None (Some k) ≡ Some j → (Some k ≡ Some j) × (j ≢ id)
    by_test true q h = cc
    by_test false q h = (h, λ z. let y : k ≡ j = cc in let x = eq-eqb k id (y ∙ z) in cc)

cut-other : (id j : ℕ) → j ≢ id → cut id (Some j) ≡ Some j
cut-other id j n = by_test (eqb j id) refl
  where
    by_test : (b : Bool) → eqb j id ≡ b → cond b None (Some j) ≡ Some j
    by_test true q = absurd (n (eqb-true j id q))
    by_test false q = refl

module _ {F : Type 0} where
  pub core-bare : (s : Option (Node F)) → option_map core_of (option_map (with_alternate None) s) ≡ option_map core_of s
  core-bare None = refl
  core-bare (Some n) = refl

  pub up-bare : (s : Option (Node F)) → up_in (option_map (with_alternate None) s) ≡ up_in s
  up-bare None = refl
  up-bare (Some n) = refl

  child-bare : (s : Option (Node F)) → child_in (option_map (with_alternate None) s) ≡ child_in s
  child-bare None = refl
  child-bare (Some n) = refl

  rebuilt : (s : Option (Node F)) → option_map (with_alternate (alternate_in s)) (option_map (with_alternate None) s) ≡ s
  rebuilt None = refl
  rebuilt (Some n) = refl

  pub core-kept : (a b : Nodes F) (i : ℕ) → bare_at b i ≡ bare_at a i → core_at b i ≡ core_at a i
  core-kept a b i e = sym (core-bare (at b i)) ∙ ap (option_map core_of) e ∙ core-bare (at a i)

  pub up-kept : (a b : Nodes F) (i : ℕ) → bare_at b i ≡ bare_at a i → up_at b i ≡ up_at a i
  up-kept a b i e = sym (up-bare (at b i)) ∙ ap up_in e ∙ up-bare (at a i)

  pub child-kept : (a b : Nodes F) (i : ℕ) → bare_at b i ≡ bare_at a i → child_at b i ≡ child_at a i
  child-kept a b i e = sym (child-bare (at b i)) ∙ ap child_in e ∙ child-bare (at a i)

  pub node-kept : (a b : Nodes F) (i : ℕ) → bare_at b i ≡ bare_at a i → alternate_at b i ≡ alternate_at a i → at b i ≡ at a i
  node-kept a b i e q = sym (rebuilt (at b i)) ∙ rw (e, q) (rebuilt (at a i))

  pub live-kept : (a b : Nodes F) (i : ℕ) → bare_at b i ≡ bare_at a i → IsSome (at a i) → IsSome (at b i)
  live-kept a b i e s = by_slots (at a i) (at b i) e s
    where
      by_slots : (x y : Option (Node F)) → option_map (with_alternate None) y ≡ option_map (with_alternate None) x → IsSome x → IsSome y
      by_slots None y q h = cc
      by_slots (Some n) None q h = cc
      by_slots (Some n) (Some m) q h = refl

  pub gone-not : (a : Nodes F) (i : ℕ) → at a i ≡ None → IsSome (at a i) → ⊥
  gone-not a i e s = let q = rw e at s in cc

  -- nothing is released
  pub frees-none : (a : Nodes F) (P : ℕ → Type 0) → ((i : ℕ) → P i → ⊥) → Frees a a P
  frees-none a P n = record {
    gone = λ i p. absurd (n i p);
    vacant = λ i e. e;
    kept = λ i p. refl;
    cuts = λ i j e. (e, n j);
    stays = λ i j p q e. e;
    count = omega arith;
  }

  pub frees-same : (a b : Nodes F) (P Q : ℕ → Type 0) → ((i : ℕ) → P i → Q i) → ((i : ℕ) → Q i → P i) → Frees a b P → Frees a b Q
  frees-same a b P Q to from f = record {
    gone = λ i q. f.gone i (from i q);
    vacant = f.vacant;
    kept = λ i n. f.kept i (λ p. n (to i p));
    cuts = λ i j e. let r = f.cuts i j e in (r.0, λ q. r.1 (from j q));
    stays = λ i j n m e. f.stays i j (λ p. n (to i p)) (λ p. m (to j p)) e;
    count = f.count;
  }

  pub frees-both : (a b c : Nodes F) (P Q : ℕ → Type 0) → Frees a b P → Frees b c Q → Frees a c (λ i. P i ⊎ Q i)
  frees-both a b c P Q f g = record {
    gone = λ i h. elim h [ inl p ↦ g.vacant i (f.gone i p) | inr q ↦ g.gone i q ];
    vacant = λ i e. g.vacant i (f.vacant i e);
    kept = λ i n. g.kept i (λ q. n (inr q)) ∙ f.kept i (λ p. n (inl p));
    cuts = λ i j e.
        let r = g.cuts i j e in
        let s = f.cuts i j r.0 in
        (s.0, λ h. elim h [ inl p ↦ s.1 p | inr q ↦ r.1 q ]);
    stays = λ i j n m e. g.stays i j (λ q. n (inr q)) (λ q. m (inr q)) (f.stays i j (λ p. n (inl p)) (λ p. m (inl p)) e);
    count = omega (arith, f.count, g.count);
  }

  alternate-without : (id : ℕ) (s : Option (Node F)) → alternate_in (without id s) ≡ cut id (alternate_in s)
  alternate-without id None = refl
  alternate-without id (Some n) = refl

  bare-without : (id : ℕ) (s : Option (Node F)) → option_map (with_alternate None) (without id s) ≡ option_map (with_alternate None) s
  bare-without id None = refl
  bare-without id (Some n) = refl

  -- one node is released
  pub frees-one : (a b : Nodes F) (id : ℕ) → Releases a b id → Frees a b (λ i. i ≡ id)
  frees-one a b id r = record {
    gone = λ i e. rw e r.gone;
    vacant = λ i e. elim (same_or_not i id) [ inl q ↦ rw q r.gone | inr n ↦ rw (r.others i n, e) refl ];
    kept = λ i n. ap (option_map (with_alternate None)) (r.others i n) ∙ bare-without id (at a i);
    cuts = λ i j e. elim (same_or_not i id) [
      | inl q ↦ let x = ap alternate_in r.gone in let y = rw q at e in cc
      | inr n ↦ cut-some id (alternate_at a i) j (sym (ap alternate_in (r.others i n) ∙ alternate-without id (at a i)) ∙ e)
    ];
    stays = λ i j n m e. ap alternate_in (r.others i n) ∙ alternate-without id (at a i) ∙ rw e (cut-other id j m);
    count = omega (arith, r.live);
  }

  pub own-held : (a : Nodes F) (s : Shape F) (i : ℕ) → Holds (own_part a s) i → Holds s i
  own-held a none i h = h
  own-held a (fiber id v ks rs) i (inl e) = inl e
  own-held a (fiber id v ks rs) i (inr (inr h)) = inr (inr (own-held a rs i h))
  own-held a (fiber id v ks rs) i (inr (inl h)) = inr (inl (by_test (is_shared a id) (own-held a ks i) h))
    where
      by_test : (b : Bool) → (Holds (own_part a ks) i → Holds ks i) → Holds (cond b none (own_part a ks)) i → Holds ks i
      by_test true ih m = absurd m
      by_test false ih m = ih m

  -- the same is shared in other nodes
  pub own-frame : (a c : Nodes F) (s : Shape F) → ((i : ℕ) → Holds (own_part a s) i → is_shared c i ≡ is_shared a i) → own_part c s ≡ own_part a s
  own-frame a c none h = refl
  own-frame a c (fiber id v ks rs) h =
      rw (h id (inl refl), own-frame a c rs (λ i m. h i (inr (inr m))))
      (by_test (is_shared a id) refl (λ sh. own-frame a c ks (λ i m. h i (inr (inl (rw sh m))))))
    where
      by_test : (b : Bool) → is_shared a id ≡ b → (is_shared a id ≡ false → own_part c ks ≡ own_part a ks)
          → fiber id v (cond b none (own_part c ks)) (own_part a rs) ≡ fiber id v (cond b none (own_part a ks)) (own_part a rs)
      by_test true q ih = refl
      by_test false q ih = rw (ih q) refl

  pub is-read : (a : Nodes F) (s : Shape F) → Reads a s → size s ≤ limit → IsRead a (first s)
  is-read a s r h =
      let e = shape_of-reads limit a s r h in
      record { reads = rw e r; leads = rw e refl; small = rw e h }

  pub record ReadStep (a : Nodes F) (id : ℕ) : Type 0 where
    pub value : F
    pub kids : Shape F
    pub rest : Shape F
    pub here : core_at a id ≡ Some (core value (first kids) (first rest))
    pub kids_read : Reads a kids
    pub rest_read : Reads a rest
    pub whole : shape_of limit a (Some id) ≡ fiber id value kids rest
    pub small : size kids + size rest < limit

  pub read-step : (a : Nodes F) (id : ℕ) → IsRead a (Some id) → ReadStep a id
  read-step a id h = by_shape (shape_of limit a (Some id)) refl h.reads h.leads h.small
    where
      by_shape : (s : Shape F) → shape_of limit a (Some id) ≡ s → Reads a s → first s ≡ Some id → size s ≤ limit → ReadStep a id
      by_shape none e r f z = cc
      by_shape (fiber jd v ks rs) e r f z =
          let same : jd ≡ id = cc in
          record {
            value = v;
            kids = ks;
            rest = rs;
            here = rw (← same) r.0;
            kids_read = r.1;
            rest_read = r.2;
            whole = e ∙ rw same refl;
            small = omega arith;
          }

  pub read-end : (a : Nodes F) → shape_of limit a None ≡ none
  read-end a = shape_of-reads limit a none tt (omega arith)

  pub own-here : (a : Nodes F) (id : ℕ) (n : Node F) → at a id ≡ Some n → own_in a n ≡ own_link a id
  own-here a id n e = rw e refl

  -- a step of the release: the fiber, its own children, and then the rest
  module _ (a : Nodes F) (next : Option ℕ) (id : ℕ) (is : next ≡ Some id) (ready : IsReady a next) where
    pub st : ReadStep a id
    st = let r = ready.read in read-step a id (rw is at r)

    pub step-live : IsSome (at a id)
    step-live = core-live a id (core st.value (first st.kids) (first st.rest)) st.here

    -- what its node says is read there
    pub step-own : (n : Node F) → at a id ≡ Some n → (link : Option ℕ) → link ≡ own_in a n → link ≡ own_link a id
    step-own n here link e = e ∙ own-here a id n here

    pub step-rest : (n : Node F) → at a id ≡ Some n → (link : Option ℕ) → link ≡ n.sibling → IfSome (at a id) (λ n. link ≡ n.sibling)
    step-rest n here link e = rw here e

    whole : shape_of limit a next ≡ fiber id st.value st.kids st.rest
    whole = ap (shape_of limit a) is ∙ st.whole

    tree : IsTree (fiber id st.value st.kids st.rest)
    tree = rw whole at ready.once

    own_kids : Shape F
    own_kids = cond (is_shared a id) none st.kids

    kids_shape : shape_of limit a (own_link a id) ≡ own_kids
    unfolding own_kids
    kids_shape = by_test (is_shared a id)
      where
        by_test : (b : Bool) → shape_of limit a (cond b None (child_at a id)) ≡ cond b none st.kids
        by_test true = read-end a
        by_test false = rw (child-core a id st.value (first st.kids) (first st.rest) st.here) (shape_of-reads limit a st.kids st.kids_read (omega (arith, st.small)))

    kids_read : Reads a own_kids
    unfolding own_kids
    kids_read = by_test (is_shared a id)
      where
        by_test : (b : Bool) → Reads a (cond b none st.kids)
        by_test true = tt
        by_test false = st.kids_read

    kids_size : size own_kids ≤ size st.kids
    unfolding own_kids
    kids_size = by_test (is_shared a id)
      where
        by_test : (b : Bool) → size (cond b none st.kids) ≤ size st.kids
        by_test true = omega arith
        by_test false = omega arith

    kids_tree : IsTree own_kids
    unfolding own_kids
    kids_tree = by_test (is_shared a id)
      where
        by_test : (b : Bool) → IsTree (cond b none st.kids)
        by_test true = tt
        by_test false = tree.3

    own_kids_part : own_part a own_kids ≡ cond (is_shared a id) none (own_part a st.kids)
    unfolding own_kids
    own_kids_part = by_test (is_shared a id)
      where
        by_test : (b : Bool) → own_part a (cond b none st.kids) ≡ cond b none (own_part a st.kids)
        by_test true = refl
        by_test false = refl

    -- what is released is the fiber, its own children, and the own part of the rest
    parts : own_list a next ≡ fiber id st.value (own_part a own_kids) (own_part a st.rest)
    parts = rw (whole, own_kids_part) refl

    pub step-smaller : size (shape_of limit a (own_link a id)) < size (shape_of limit a next)
    step-smaller = rw (kids_shape, whole) (omega (arith, kids_size))

    pub step-ready : IsReady a (own_link a id)
    unfolding own_kids
    step-ready = record {
      read = record {
        reads = rw kids_shape kids_read;
        leads = rw kids_shape first_kids;
        small = rw kids_shape (omega (arith, kids_size, st.small));
      };
      once = rw kids_shape kids_tree;
      apart = λ i j p e q.
          ready.apart i j (rw parts (inr (inl (rw kids_shape at p)))) e (rw parts (inr (inl (rw kids_shape at q))));
    }
      where
        first_kids : first own_kids ≡ own_link a id
        first_kids = by_test (is_shared a id)
          where
            by_test : (b : Bool) → first (cond b none st.kids) ≡ cond b None (child_at a id)
            by_test true = refl
            by_test false = sym (child-core a id st.value (first st.kids) (first st.rest) st.here)

    kids_within : (i : ℕ) → Holds own_kids i → Holds st.kids i
    unfolding own_kids
    kids_within i h = by_test (is_shared a id) h
      where
        by_test : (x : Bool) → Holds (cond x none st.kids) i → Holds st.kids i
        by_test true m = absurd m
        by_test false m = m

    pub step-own-live : (b : Nodes F) → Frees a b (Holds (own_list a (own_link a id))) → IsSome (at b id)
    step-own-live b f =
        live-kept a b id (f.kept id (λ h. tree.0 (kids_within id (own-held a own_kids id (rw kids_shape at h))))) step-live

    module _ (b c : Nodes F) (freed : Frees a b (Holds (own_list a (own_link a id)))) (released : Releases b c id) where
      abbrev Gone : ℕ → Type 0
      Gone i = Holds (own_part a own_kids) i ⊎ (i ≡ id)

      gone : Frees a c Gone
      gone = frees-both a b c (Holds (own_part a own_kids)) (λ i. i ≡ id) (rw kids_shape at freed) (frees-one b c id released)

      gone_own : (i : ℕ) → Gone i → Holds (own_list a next) i
      gone_own i (inl h) = rw parts (inr (inl h))
      gone_own i (inr e) = rw parts (inl e)

      rest_not : (i : ℕ) → Holds st.rest i → Gone i → ⊥
      rest_not i m (inl h) = tree.2 i (kids_within i (own-held a own_kids i h)) m
      rest_not i m (inr e) = tree.1 (rw e at m)

      rest_read : Reads c st.rest
      rest_read = Reads-frame a c st.rest (λ i m. core-kept a c i (gone.kept i (rest_not i m))) st.rest_read

      rest_shape : shape_of limit c (first st.rest) ≡ st.rest
      rest_shape = shape_of-reads limit c st.rest rest_read (omega (arith, st.small))

      shared_same : (i : ℕ) → Holds (own_part a st.rest) i → is_shared c i ≡ is_shared a i
      shared_same i m = by_alternate (alternate_at a i) refl
        where
          child_same : child_at c i ≡ child_at a i
          child_same = child-kept a c i (gone.kept i (rest_not i (own-held a st.rest i m)))

          by_alternate : (o : Option ℕ) → alternate_at a i ≡ o → is_shared c i ≡ is_shared a i
          by_alternate None e = rw (child_same, e, no_alternate (alternate_at c i) refl) refl
            where
              no_alternate : (x : Option ℕ) → alternate_at c i ≡ x → x ≡ None
              no_alternate None q = refl
              no_alternate (Some j) q = let r = gone.cuts i j q in let s = r.0 in cc
          by_alternate (Some j) e =
              let not_j : Gone j → ⊥ = λ g. ready.apart i j (rw parts (inr (inr m))) e (gone_own j g) in
              rw (child_same, e, gone.stays i j (rest_not i (own-held a st.rest i m)) not_j e, child-kept a c j (gone.kept j not_j)) refl

      rest_own : own_part c st.rest ≡ own_part a st.rest
      rest_own = own-frame a c st.rest shared_same

      rest_list : own_list c (first st.rest) ≡ own_part a st.rest
      rest_list = rw rest_shape rest_own

      module _ (link : Option ℕ) (link_is : IfSome (at a id) (λ n. link ≡ n.sibling)) where
        pub rest-is : link ≡ first st.rest
        rest-is = by_slot (at a id) refl link_is
          where
            by_slot : (o : Option (Node F)) → at a id ≡ o → IfSome o (λ n. link ≡ n.sibling) → link ≡ first st.rest
            by_slot None f x = let q = ap (option_map core_of) f in let e = st.here in cc
            by_slot (Some n) f x = let q = ap (option_map core_of) f in let e = st.here in cc

        pub rest-ready : IsReady c link
        rest-ready = rw rest-is (record {
          read = is-read c st.rest rest_read (omega (arith, st.small));
          once = rw rest_shape tree.4;
          apart = λ i j p e q.
              let r = gone.cuts i j e in
              ready.apart i j (rw parts (inr (inr (rw rest_list at p)))) r.0 (rw parts (inr (inr (rw rest_list at q))));
        })

        pub rest-smaller : size (shape_of limit c link) < size (shape_of limit a next)
        rest-smaller = rw (rest-is, rest_shape, whole) (omega arith)

        pub rest-within : (n : ℕ) → size (shape_of limit a next) ≤ n → size (shape_of limit c link) ≤ n
        rest-within n h = omega (arith, rest-smaller, h)

        pub rest-gives : (new : Nodes F) → Frees c new (Holds (own_list c link)) → Frees a new (Holds (own_list a next))
        rest-gives new f =
            frees-same a new (λ i. Gone i ⊎ Holds (own_part a st.rest) i) (Holds (own_list a next))
            (λ i h. elim h [ inl g ↦ gone_own i g | inr m ↦ rw parts (inr (inr m)) ])
            (λ i h. split i (rw parts at h))
            (frees-both a c new Gone (Holds (own_part a st.rest)) gone (rw (rest-is, rest_list) at f))
          where
            split : (i : ℕ) → Holds (fiber id st.value (own_part a own_kids) (own_part a st.rest)) i → Gone i ⊎ Holds (own_part a st.rest) i
            split i (inl e) = inl (inr e)
            split i (inr (inl h)) = inl (inl h)
            split i (inr (inr h)) = inr h

  pub end-gives : (a : Nodes F) (next : Option ℕ) → next ≡ None → Frees a a (Holds (own_list a next))
  end-gives a next e = frees-none a (Holds (own_list a next)) (λ i h. nothing i (rw (e, read-end a) at h))
    where
      nothing : (i : ℕ) → Holds (own_part a none) i → ⊥
      nothing i h = h
