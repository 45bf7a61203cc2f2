-- Return links are made exact, fiber by fiber.
use Rattle.std.proofs.Common.{Bool, true, false, cond, ◌≡◌, ◌≢◌, ◌<◌, ◌≤◌, ◌⊎◌, inl, inr, ℕ, refl, sym, ap, ◌∙◌, IsSome, Some, None, Option, IfSome, option_map, arith}
use Rattle.rx_arena.specs.Nodes.{at, alternate_in, Changes, with_up}
use Rattle.rx_arena.specs.declared.arena.Node.{Node}
use Rattle.rx_lists.specs.Adopted.{flat_at, KidsReturn, SharedReturn, IsBelow, CanAdopt, Relinks, Adopts}
use Rattle.rx_lists.specs.Freed.{own_in, own_link}
use Rattle.rx_lists.specs.Links.{child_in, child_at, child_under, same_link, is_shared}
use Rattle.rx_lists.specs.Reads.{Nodes, core, core_of, core_at, up_in, up_at, alternate_at, Reads, Returns, limit, shape_of, IsRead}
use Rattle.rx_lists.specs.Shapes.{Shape, none, fiber, first, Holds, IsTree, size, IsTop}
use Rattle.rx_lists.proofs.Frames.{same_or_not, Reads-frame, Reads-live, Returns-frame, child-core, core-live, shape_of-reads}
use Rattle.rx_lists.proofs.Freeing.{own-here, is-read, ReadStep, read-step, read-end}

module _ {F : Type 0} where
  core-flat : (s : Option (Node F)) → option_map core_of (option_map (with_up None) s) ≡ option_map core_of s
  core-flat None = refl
  core-flat (Some n) = refl

  alternate-flat : (s : Option (Node F)) → alternate_in (option_map (with_up None) s) ≡ alternate_in s
  alternate-flat None = refl
  alternate-flat (Some n) = refl

  child-flat : (s : Option (Node F)) → child_in (option_map (with_up None) s) ≡ child_in s
  child-flat None = refl
  child-flat (Some n) = refl

  flat-up : (p : Option ℕ) (s : Option (Node F)) → option_map (with_up None) (option_map (with_up p) s) ≡ option_map (with_up None) s
  flat-up p None = refl
  flat-up p (Some n) = refl

  up-up : (p : Option ℕ) (s : Option (Node F)) → IsSome s → up_in (option_map (with_up p) s) ≡ p
  up-up p None h = cc
  up-up p (Some n) h = refl

  pub core-same : (a b : Nodes F) (i : ℕ) → flat_at b i ≡ flat_at a i → core_at b i ≡ core_at a i
  core-same a b i e = sym (core-flat (at b i)) ∙ ap (option_map core_of) e ∙ core-flat (at a i)

  pub alternate-same : (a b : Nodes F) (i : ℕ) → flat_at b i ≡ flat_at a i → alternate_at b i ≡ alternate_at a i
  alternate-same a b i e = sym (alternate-flat (at b i)) ∙ ap alternate_in e ∙ alternate-flat (at a i)

  child-same : (a b : Nodes F) (i : ℕ) → flat_at b i ≡ flat_at a i → child_at b i ≡ child_at a i
  child-same a b i e = sym (child-flat (at b i)) ∙ ap child_in e ∙ child-flat (at a i)

  pub shared-same : (a b : Nodes F) → ((i : ℕ) → flat_at b i ≡ flat_at a i) → (i : ℕ) → is_shared b i ≡ is_shared a i
  shared-same a b same i = rw (child-same a b i (same i), alternate-same a b i (same i)) (by_old (alternate_at a i))
    where
      by_old : (o : Option ℕ) → same_link (child_at a i) (child_under b o) ≡ same_link (child_at a i) (child_under a o)
      by_old None = refl
      by_old (Some j) = rw (child-same a b j (same j)) refl

  pub reads-same : (a b : Nodes F) (s : Shape F) → ((i : ℕ) → flat_at b i ≡ flat_at a i) → Reads a s → Reads b s
  reads-same a b s same r = Reads-frame a b s (λ i h. core-same a b i (same i)) r

  pub top-held : (s : Shape F) (i : ℕ) → IsTop s i → Holds s i
  top-held none i h = h
  top-held (fiber id v ks rs) i (inl e) = inl (sym e)
  top-held (fiber id v ks rs) i (inr h) = inr (inr (top-held rs i h))

  below-held : (s : Shape F) (i : ℕ) → IsBelow s i → Holds s i
  below-held none i h = h
  below-held (fiber id v ks rs) i (inl h) = inr (inl h)
  below-held (fiber id v ks rs) i (inr h) = inr (inr (below-held rs i h))

  -- in a tree the list itself and what is below are apart
  pub top-below : (s : Shape F) (i : ℕ) → IsTree s → IsTop s i → IsBelow s i → ⊥
  top-below none i t h b = h
  top-below (fiber id v ks rs) i t (inl e) (inl b) = t.0 (rw e b)
  top-below (fiber id v ks rs) i t (inl e) (inr b) = t.1 (rw e (below-held rs i b))
  top-below (fiber id v ks rs) i t (inr h) (inl b) = t.2 i b (top-held rs i h)
  top-below (fiber id v ks rs) i t (inr h) (inr b) = top-below rs i t.4 h b

  pub returns-kids : (a : Nodes F) (p : Option ℕ) (s : Shape F) → Returns a p s → KidsReturn a s
  returns-kids a p none r = tt
  returns-kids a p (fiber id v ks rs) r = (r.1, returns-kids a p rs r.2)

  pub kids-returns : (a : Nodes F) (p : Option ℕ) (s : Shape F) → ((i : ℕ) → IsTop s i → up_at a i ≡ p) → KidsReturn a s → Returns a p s
  kids-returns a p none h k = tt
  kids-returns a p (fiber id v ks rs) h k = (h id (inl refl), k.0, kids-returns a p rs (λ i m. h i (inr m)) k.1)

  kids-frame : (a b : Nodes F) (s : Shape F) → ((i : ℕ) → IsBelow s i → at b i ≡ at a i) → KidsReturn a s → KidsReturn b s
  kids-frame a b none same k = tt
  kids-frame a b (fiber id v ks rs) same k = (
    Returns-frame a b (Some id) ks (λ i h. ap up_in (same i (inl h))) k.0,
    kids-frame a b rs (λ i h. same i (inr h)) k.1,
  )

  below-in : (s : Shape F) (i : ℕ) → IsBelow s i → Holds s i
  below-in s i b = below-held s i b

  shared-frame : (a b : Nodes F) (s : Shape F) → ((i : ℕ) → flat_at b i ≡ flat_at a i) → ((i : ℕ) → IsBelow s i → at b i ≡ at a i) → SharedReturn a s → SharedReturn b s
  shared-frame a b none flat same h = tt
  shared-frame a b (fiber id v ks rs) flat same h = (
    λ e. kids-frame a b ks (λ i m. same i (inl (below-held ks i m))) (h.0 (sym (shared-same a b flat id) ∙ e)),
    λ e. shared-frame a b ks flat (λ i m. same i (inl (below-held ks i m))) (h.1 (sym (shared-same a b flat id) ∙ e)),
    shared-frame a b rs flat (λ i m. same i (inr m)) h.2,
  )

  -- a step of the relinking of a list
  module _ (a : Nodes F) (next : Option ℕ) (id : ℕ) (is : next ≡ Some id) (read : IsRead a next) (once : IsTree (shape_of limit a next)) where
    pub rt : ReadStep a id
    rt = read-step a id (rw is at read)

    pub relink-live : IsSome (at a id)
    relink-live = core-live a id (core rt.value (first rt.kids) (first rt.rest)) rt.here

    whole : shape_of limit a next ≡ fiber id rt.value rt.kids rt.rest
    whole = ap (shape_of limit a) is ∙ rt.whole

    tree : IsTree (fiber id rt.value rt.kids rt.rest)
    tree = rw whole at once

    pub sibling-is : (link : Option ℕ) → IfSome (at a id) (λ n. link ≡ n.sibling) → link ≡ first rt.rest
    sibling-is link h = by_slot (at a id) refl h
      where
        by_slot : (o : Option (Node F)) → at a id ≡ o → IfSome o (λ n. link ≡ n.sibling) → link ≡ first rt.rest
        by_slot None f x = let q = ap (option_map core_of) f in let e = rt.here in cc
        by_slot (Some n) f x = let q = ap (option_map core_of) f in let e = rt.here in cc

    pub child-is : (link : Option ℕ) → IfSome (at a id) (λ n. link ≡ n.child) → link ≡ first rt.kids
    child-is link h = by_slot (at a id) refl h
      where
        by_slot : (o : Option (Node F)) → at a id ≡ o → IfSome o (λ n. link ≡ n.child) → link ≡ first rt.kids
        by_slot None f x = let q = ap (option_map core_of) f in let e = rt.here in cc
        by_slot (Some n) f x = let q = ap (option_map core_of) f in let e = rt.here in cc

    module _ (b : Nodes F) (up : ℕ) (ch : Changes (with_up (Some up)) a b id) (link : Option ℕ) (link_is : IfSome (at a id) (λ n. link ≡ n.sibling)) where
      flat_same : (i : ℕ) → flat_at b i ≡ flat_at a i
      flat_same i = elim (same_or_not i id) [
        | inl e ↦ rw e (ap (option_map (with_up None)) ch.changed ∙ flat-up (Some up) (at a id))
        | inr n ↦ ap (option_map (with_up None)) (ch.others i n)
      ]

      rest_read : Reads b rt.rest
      rest_read = reads-same a b rt.rest flat_same rt.rest_read

      rest_shape : shape_of limit b link ≡ rt.rest
      rest_shape = ap (shape_of limit b) (sibling-is link link_is) ∙ shape_of-reads limit b rt.rest rest_read (omega (arith, rt.small))

      pub relink-read : IsRead b link
      relink-read = rw (sibling-is link link_is) (is-read b rt.rest rest_read (omega (arith, rt.small)))

      pub relink-once : IsTree (shape_of limit b link)
      relink-once = rw rest_shape tree.4

      pub relink-smaller : size (shape_of limit b link) < size (shape_of limit a next)
      relink-smaller = rw (rest_shape, whole) (omega arith)

      pub relink-gives : (new : Nodes F) → Relinks b new (shape_of limit b link) up → Relinks a new (shape_of limit a next) up
      relink-gives new r = rw whole (record {
        linked = λ i m. elim m [
          | inl e ↦ rw (← e) (f.others id (λ m. tree.1 (top-held rt.rest id m)) ∙ ch.changed)
          | inr m ↦ f.linked i m ∙ ap (option_map (with_up (Some up))) (ch.others i (λ e. tree.1 (top-held rt.rest id (rw e at m))))
        ];
        others = λ i n. f.others i (λ m. n (inr m)) ∙ ch.others i (λ e. n (inl (sym e)));
        live = f.live ∙ ch.live;
      })
        where
          f : Relinks b new rt.rest up
          f = rw rest_shape at r

  pub relink-end : (a : Nodes F) (next : Option ℕ) (up : ℕ) → next ≡ None → Relinks a a (shape_of limit a next) up
  relink-end a next up e = rw (e, read-end a) (record { linked = λ i m. absurd m; others = λ i n. refl; live = refl })

  top_or_not : (s : Shape F) (i : ℕ) → IsTop s i ⊎ (IsTop s i → ⊥)
  top_or_not none i = inr (λ h. h)
  top_or_not (fiber id v ks rs) i = by_cases (same_or_not id i) (top_or_not rs i)
    where
      by_cases : (id ≡ i) ⊎ (id ≢ i) → IsTop rs i ⊎ (IsTop rs i → ⊥) → IsTop (fiber id v ks rs) i ⊎ (IsTop (fiber id v ks rs) i → ⊥)
      by_cases (inl e) _ = inl (inl e)
      by_cases (inr n) (inl h) = inl (inr h)
      by_cases (inr n) (inr h) = inr (λ x. elim x [ inl e ↦ n e | inr y ↦ h y ])

  pub relinks-flat : (a b : Nodes F) (s : Shape F) (up : ℕ) → Relinks a b s up → (i : ℕ) → flat_at b i ≡ flat_at a i
  relinks-flat a b s up r i = elim (top_or_not s i) [
    | inl h ↦ ap (option_map (with_up None)) (r.linked i h) ∙ flat-up (Some up) (at a i)
    | inr h ↦ ap (option_map (with_up None)) (r.others i h)
  ]

  -- a step of the whole: the children's own links, then what is below them, then the rest
  module _ (a : Nodes F) (next : Option ℕ) (id : ℕ) (is : next ≡ Some id) (can : CanAdopt a next) where
    ad : ReadStep a id
    ad = let r = can.read in read-step a id (rw is at r)

    pub adopt-live : IsSome (at a id)
    adopt-live = core-live a id (core ad.value (first ad.kids) (first ad.rest)) ad.here

    -- what its node says is read there
    pub child-here : (n : Node F) → at a id ≡ Some n → (link : Option ℕ) → link ≡ n.child → IfSome (at a id) (λ n. link ≡ n.child)
    child-here n here link e = rw here e

    pub sibling-here : (n : Node F) → at a id ≡ Some n → (link : Option ℕ) → link ≡ n.sibling → IfSome (at a id) (λ n. link ≡ n.sibling)
    sibling-here n here link e = rw here e

    adopt_whole : shape_of limit a next ≡ fiber id ad.value ad.kids ad.rest
    adopt_whole = ap (shape_of limit a) is ∙ ad.whole

    adopt_tree : IsTree (fiber id ad.value ad.kids ad.rest)
    adopt_tree = rw adopt_whole at can.once

    adopt_shared : SharedReturn a (fiber id ad.value ad.kids ad.rest)
    adopt_shared = rw adopt_whole at can.shared

    adopt_child : (link : Option ℕ) → IfSome (at a id) (λ n. link ≡ n.child) → link ≡ first ad.kids
    adopt_child link h = by_slot (at a id) refl h
      where
        by_slot : (o : Option (Node F)) → at a id ≡ o → IfSome o (λ n. link ≡ n.child) → link ≡ first ad.kids
        by_slot None f x = let q = ap (option_map core_of) f in let e = ad.here in cc
        by_slot (Some n) f x = let q = ap (option_map core_of) f in let e = ad.here in cc

    own : Shape F
    own = cond (is_shared a id) none ad.kids

    own_held : (i : ℕ) → Holds own i → Holds ad.kids i
    unfolding own
    own_held i h = by_test (is_shared a id) h
      where
        by_test : (x : Bool) → Holds (cond x none ad.kids) i → Holds ad.kids i
        by_test true m = absurd m
        by_test false m = m

    own_below : (i : ℕ) → IsBelow own i → IsBelow ad.kids i
    unfolding own
    own_below i h = by_test (is_shared a id) h
      where
        by_test : (x : Bool) → IsBelow (cond x none ad.kids) i → IsBelow ad.kids i
        by_test true m = absurd m
        by_test false m = m

    own-tree : IsTree own
    unfolding own
    own-tree = by_test (is_shared a id)
      where
        by_test : (x : Bool) → IsTree (cond x none ad.kids)
        by_test true = tt
        by_test false = adopt_tree.3

    own-shared : (b : Nodes F) → ((i : ℕ) → flat_at b i ≡ flat_at a i) → ((i : ℕ) → IsBelow ad.kids i → at b i ≡ at a i) → SharedReturn b own
    unfolding own
    own-shared b flat same = by_test (is_shared a id) refl
      where
        by_test : (x : Bool) → is_shared a id ≡ x → SharedReturn b (cond x none ad.kids)
        by_test true e = tt
        by_test false e = shared-frame a b ad.kids flat same (adopt_shared.1 e)

    own-nothing : is_shared a id ≡ true → (i : ℕ) → IsBelow own i → ⊥
    unfolding own
    own-nothing sh i m = rw sh at m

    -- below the children the links are exact: by the relinking if they are own, and else as before
    kids-below : (c : Nodes F) → KidsReturn c own → (is_shared a id ≡ true → (i : ℕ) → IsBelow ad.kids i → at c i ≡ at a i) → KidsReturn c ad.kids
    unfolding own
    kids-below c k same = by_test (is_shared a id) refl k
      where
        by_test : (x : Bool) → is_shared a id ≡ x → KidsReturn c (cond x none ad.kids) → KidsReturn c ad.kids
        by_test true e q = kids-frame a c ad.kids (same e) (adopt_shared.0 e)
        by_test false e q = q

    module _ (kids : Option ℕ) (kids_is : IfSome (at a id) (λ n. kids ≡ n.child)) where
      kids_shape : shape_of limit a kids ≡ ad.kids
      kids_shape = ap (shape_of limit a) (adopt_child kids kids_is) ∙ shape_of-reads limit a ad.kids ad.kids_read (omega (arith, ad.small))

      pub adopt-kids-read : IsRead a kids
      adopt-kids-read = rw (adopt_child kids kids_is) (is-read a ad.kids ad.kids_read (omega (arith, ad.small)))

      pub adopt-kids-once : IsTree (shape_of limit a kids)
      adopt-kids-once = rw kids_shape adopt_tree.3

      module _ (b : Nodes F) (relinked_ : Relinks a b (shape_of limit a kids) id) where
        relinked : Relinks a b ad.kids id
        relinked = rw kids_shape at relinked_

        flat_b : (i : ℕ) → flat_at b i ≡ flat_at a i
        flat_b = relinks-flat a b ad.kids id relinked

        own_is : own_link b id ≡ cond (is_shared a id) None (first ad.kids)
        own_is = rw (shared-same a b flat_b id, child-same a b id (flat_b id), child-core a id ad.value (first ad.kids) (first ad.rest) ad.here) refl

        pub adopt-own : (n : Node F) → at a id ≡ Some n → (link : Option ℕ) → link ≡ own_in a n → link ≡ own_link b id
        adopt-own n here link e = e ∙ own-here a id n here ∙ rw (shared-same a b flat_b id, child-same a b id (flat_b id)) refl

        kids_b : Reads b ad.kids
        kids_b = reads-same a b ad.kids flat_b ad.kids_read

        own_shape : shape_of limit b (own_link b id) ≡ own
        unfolding own
        own_shape = ap (shape_of limit b) own_is ∙ by_test (is_shared a id)
          where
            by_test : (x : Bool) → shape_of limit b (cond x None (first ad.kids)) ≡ cond x none ad.kids
            by_test true = read-end b
            by_test false = shape_of-reads limit b ad.kids kids_b (omega (arith, ad.small))

        own_small : size own ≤ size ad.kids
        unfolding own
        own_small = by_test (is_shared a id)
          where
            by_test : (x : Bool) → size (cond x none ad.kids) ≤ size ad.kids
            by_test true = omega arith
            by_test false = omega arith

        pub adopt-smaller : size (shape_of limit b (own_link b id)) < size (shape_of limit a next)
        adopt-smaller = rw (own_shape, adopt_whole) (omega (arith, own_small))

        -- below the children nothing changed
        below_b : (i : ℕ) → IsBelow ad.kids i → at b i ≡ at a i
        below_b i m = relinked.others i (λ h. top-below ad.kids i adopt_tree.3 h m)

        pub adopt-can : CanAdopt b (own_link b id)
        adopt-can = record {
          read = rw own_is (reading (is_shared a id));
          once = rw own_shape own_tree;
          shared = rw own_shape own_shared;
        }
          where
            reading : (x : Bool) → IsRead b (cond x None (first ad.kids))
            reading true = is-read b none tt (omega arith)
            reading false = is-read b ad.kids kids_b (omega (arith, ad.small))

            own_tree : IsTree own
            own_tree = own-tree

            own_shared : SharedReturn b own
            own_shared = own-shared b flat_b below_b

        module _ (c : Nodes F) (adopted_ : Adopts b c (shape_of limit b (own_link b id))) where
          adopted : Adopts b c own
          adopted = rw own_shape at adopted_

          flat_c : (i : ℕ) → flat_at c i ≡ flat_at a i
          flat_c i = adopted.flat i ∙ flat_b i

          -- outside the children nothing changed
          outside_c : (i : ℕ) → (Holds ad.kids i → ⊥) → at c i ≡ at a i
          outside_c i n =
              adopted.others i (λ m. n (below-held ad.kids i (own_below i m))) ∙ relinked.others i (λ h. n (top-held ad.kids i h))

          below_rest : (i : ℕ) → Holds ad.rest i → at c i ≡ at a i
          below_rest i m = outside_c i (λ h. adopt_tree.2 i h m)

          module _ (link : Option ℕ) (link_is : IfSome (at a id) (λ n. link ≡ n.sibling)) where
            rest_link : link ≡ first ad.rest
            rest_link = by_slot (at a id) refl link_is
              where
                by_slot : (o : Option (Node F)) → at a id ≡ o → IfSome o (λ n. link ≡ n.sibling) → link ≡ first ad.rest
                by_slot None f x = let q = ap (option_map core_of) f in let e = ad.here in cc
                by_slot (Some n) f x = let q = ap (option_map core_of) f in let e = ad.here in cc

            rest_c : Reads c ad.rest
            rest_c = reads-same a c ad.rest flat_c ad.rest_read

            adopt_rest : shape_of limit c link ≡ ad.rest
            adopt_rest = ap (shape_of limit c) rest_link ∙ shape_of-reads limit c ad.rest rest_c (omega (arith, ad.small))

            pub adopt-rest-can : CanAdopt c link
            adopt-rest-can = record {
              read = rw rest_link (is-read c ad.rest rest_c (omega (arith, ad.small)));
              once = rw adopt_rest adopt_tree.4;
              shared = rw adopt_rest (shared-frame a c ad.rest flat_c (λ i m. below_rest i (below-held ad.rest i m)) adopt_shared.2);
            }

            pub adopt-rest-smaller : size (shape_of limit c link) < size (shape_of limit a next)
            adopt-rest-smaller = rw (adopt_rest, adopt_whole) (omega arith)

            pub adopt-rest-within : (n : ℕ) → size (shape_of limit a next) ≤ n → size (shape_of limit c link) ≤ n
            adopt-rest-within n h = omega (arith, adopt-rest-smaller, h)

            -- the children return to the fiber
            kids_return : Returns c (Some id) ad.kids
            kids_return =
                kids-returns c (Some id) ad.kids
                (λ i m.
                ap up_in (adopted.others i (λ q. top-below ad.kids i adopt_tree.3 m (own_below i q)) ∙ relinked.linked i m)
                ∙ up-up (Some id) (at a i) (top_live i m))
                (kids-below c adopted.returns (λ sh i m. adopted.others i (λ q. nothing sh i q) ∙ below_b i m))
              where
                top_live : (i : ℕ) → IsTop ad.kids i → IsSome (at a i)
                top_live i m = Reads-live a ad.kids i ad.kids_read (top-held ad.kids i m)

                nothing : is_shared a id ≡ true → (i : ℕ) → IsBelow own i → ⊥
                nothing = own-nothing

            pub adopt-gives : (new : Nodes F) → Adopts c new (shape_of limit c link) → Adopts a new (shape_of limit a next)
            adopt-gives new r = rw adopt_whole (record {
              returns = (
                Returns-frame c new (Some id) ad.kids (λ i m. ap up_in (f.others i (λ q. adopt_tree.2 i m (below-held ad.rest i q)))) kids_return,
                f.returns,
              );
              flat = λ i. f.flat i ∙ flat_c i;
              others = λ i n. f.others i (λ q. n (inr q)) ∙ outside_c i (λ q. n (inl q));
              live = f.live ∙ adopted.live ∙ relinked.live;
            })
              where
                f : Adopts c new ad.rest
                f = rw adopt_rest at r

  pub adopt-end : (a : Nodes F) (next : Option ℕ) → next ≡ None → Adopts a a (shape_of limit a next)
  adopt-end a next e = rw (e, read-end a) (record { returns = tt; flat = λ i. refl; others = λ i n. refl; live = refl })
