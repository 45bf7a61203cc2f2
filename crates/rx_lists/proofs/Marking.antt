-- Marks on a list, fiber by fiber.
use Rattle.std.proofs.Common.{Bool, true, false, eqb, cond, ◌||◌, ◌≡◌, ◌≢◌, ◌<◌, ◌≤◌, ◌⊎◌, inl, inr, ℕ, refl, sym, ap, ◌∙◌, IsSome, Some, None, Option, IfSome, option_map, eq-eqb, eqb-true, arith}
use Rattle.rx_arena.specs.Nodes.{at, alternate_in, Changes, AreMutual}
use Rattle.rx_arena.specs.declared.arena.Node.{Node}
use Rattle.rx_lists.specs.Marks.{at_link, revalued, touched, Revalues, Touches, CanMark}
use Rattle.rx_lists.specs.Reads.{Nodes, core, core_of, alternate_at, Reads, limit, shape_of}
use Rattle.rx_lists.specs.Shapes.{Shape, none, fiber, first, Holds, holds, IsTree, size}
use Rattle.rx_lists.proofs.Climbing.{alternate-value, same-value}
use Rattle.rx_lists.proofs.Frames.{same_or_not, eqb-false, leads_or_not, some-at, Reads-frame, core-live, shape_of-reads, holds-Holds}
use Rattle.rx_lists.proofs.Freeing.{is-read, ReadStep, read-step, read-end}

or-cases : (x y : Bool) → (x || y) ≡ true → (x ≡ true) ⊎ (y ≡ true)
or-cases true y e = inl refl
or-cases false y e = inr e

false-not : (b : Bool) → (b ≡ true → ⊥) → b ≡ false
false-not true n = absurd (n refl)
false-not false n = refl

or-true : (x : Bool) → (x || true) ≡ true
or-true true = refl
or-true false = refl

-- two pairs of tests, paired otherwise
or-swap : (x u y w : Bool) → ((x || u) || (y || w)) ≡ ((x || y) || (u || w))
or-swap true u y w = refl
or-swap false true true w = refl
or-swap false true false w = refl
or-swap false false true w = refl
or-swap false false false w = refl

link-or : (p q : ℕ → Bool) (o : Option ℕ) → (at_link p o || at_link q o) ≡ at_link (λ i. p i || q i) o
link-or p q None = refl
link-or p q (Some j) = refl

module _ {F : Type 0} where
  -- the test passes for the id or for its alternate
  abbrev reached : Nodes F → (ℕ → Bool) → ℕ → Bool
  reached a p i = p i || at_link p (alternate_at a i)

  picked : (x : Bool) (m : F → F) (s : Option (Node F)) → x ≡ true → option_map (revalued (λ v. cond x (m v) v)) s ≡ option_map (revalued m) s
  picked x m s e = rw e refl

  skipped : (x : Bool) (m : F → F) (s : Option (Node F)) → x ≡ false → option_map (revalued (λ v. cond x (m v) v)) s ≡ s
  skipped x m s e = rw e (same-value s)

  -- one test after another, if both do not pass
  twice : (x y : Bool) (m : F → F) (s : Option (Node F)) → (x ≡ true → y ≡ true → ⊥)
      → option_map (revalued (λ v. cond y (m v) v)) (option_map (revalued (λ v. cond x (m v) v)) s) ≡ option_map (revalued (λ v. cond (x || y) (m v) v)) s
  twice true true m s n = absurd (n refl refl)
  twice true false m s n = same-value (option_map (revalued m) s)
  twice false y m s n = ap (option_map (revalued (λ v. cond y (m v) v))) (same-value s)

  alternate-touched : (a b : Nodes F) (p : ℕ → Bool) (m : F → F) → Revalues a b (touched a p m) → (i : ℕ) → alternate_at b i ≡ alternate_at a i
  alternate-touched a b p m f i = ap alternate_in (f.at_each i) ∙ alternate-value (touched a p m i) (at a i)

  -- marks by one test and then by another are marks by both
  both-touched : (a b c : Nodes F) (p q : ℕ → Bool) (m : F → F) → ((i : ℕ) → reached a p i ≡ true → reached a q i ≡ true → ⊥)
      → Revalues a b (touched a p m) → Revalues b c (touched b q m) → Revalues a c (touched a (λ i. p i || q i) m)
  both-touched a b c p q m apart_ f g = record { at_each = each; live = g.live ∙ f.live }
    where
      each : (i : ℕ) → at c i ≡ option_map (revalued (touched a (λ j. p j || q j) m i)) (at a i)
      each i =
          g.at_each i
          ∙ ap (λ o. option_map (revalued (λ v. cond (q i || at_link q o) (m v) v)) (at b i)) (alternate-touched a b p m f i)
          ∙ ap (option_map (revalued (λ v. cond (reached a q i) (m v) v))) (f.at_each i)
          ∙ twice (reached a p i) (reached a q i) m (at a i) (apart_ i)
          ∙ ap (λ x. option_map (revalued (λ v. cond x (m v) v)) (at a i))
          (or-swap (p i) (at_link p (alternate_at a i)) (q i) (at_link q (alternate_at a i))
          ∙ ap (λ y. (p i || q i) || y) (link-or p q (alternate_at a i)))

  -- a node and its alternate are marked
  touched-one : (a b c : Nodes F) (id : ℕ) (alternate : Option ℕ) (m : F → F) → AreMutual a → alternate ≡ alternate_at a id → alternate ≢ Some id
      → Changes (revalued m) a b id → Touches b c alternate m → Revalues a c (touched a (λ i. eqb i id) m)
  touched-one a b c id alternate m mutual_ is not_own one two = record { at_each = each; live = two.live ∙ one.live }
    where
      each : (i : ℕ) → at c i ≡ option_map (revalued (touched a (λ j. eqb j id) m i)) (at a i)
      each i = by_case (same_or_not i id) (leads_or_not (alternate_at a id) i)
        where
          by_case : (i ≡ id) ⊎ (i ≢ id) → (alternate_at a id ≡ Some i) ⊎ (alternate_at a id ≢ Some i)
              → at c i ≡ option_map (revalued (touched a (λ j. eqb j id) m i)) (at a i)
          by_case (inl e) d =
              rw e (two.others id not_own ∙ one.changed ∙ sym (picked (reached a (λ j. eqb j id) id) m (at a id) (rw (eq-eqb id id refl) refl)))
          by_case (inr n) (inl e) =
              some-at alternate (λ j. at c j ≡ option_map (revalued m) (at b j)) i two.here (is ∙ e)
              ∙ ap (option_map (revalued m)) (one.others i n)
              ∙ sym (picked (reached a (λ j. eqb j id) i) m (at a i) (rw (mutual_.back id i e, eq-eqb id id refl) (or-true (eqb i id))))
          by_case (inr n) (inr k) =
              two.others i (λ e. k (sym is ∙ e))
              ∙ one.others i n
              ∙ sym (skipped (reached a (λ j. eqb j id) i) m (at a i) (rw (eqb-false i id n) (by_link (alternate_at a i) refl)))
            where
              by_link : (o : Option ℕ) → alternate_at a i ≡ o → at_link (λ j. eqb j id) o ≡ false
              by_link None e = refl
              by_link (Some y) e = eqb-false y id (λ q. k (mutual_.back i id (rw q at e)))

  -- two parts of a list in which none is the alternate of another
  parts-apart : (a : Nodes F) (s : Shape F) (p q : ℕ → Bool) → ((i j : ℕ) → Holds s i → alternate_at a i ≡ Some j → Holds s j → ⊥)
      → ((i : ℕ) → p i ≡ true → Holds s i) → ((i : ℕ) → q i ≡ true → Holds s i) → ((i : ℕ) → p i ≡ true → q i ≡ true → ⊥)
      → (i : ℕ) → reached a p i ≡ true → reached a q i ≡ true → ⊥
  parts-apart a s p q lone hp hq n i x y =
      by_link (alternate_at a i) refl (or-cases (p i) (at_link p (alternate_at a i)) x) (or-cases (q i) (at_link q (alternate_at a i)) y)
    where
      by_link : (o : Option ℕ) → alternate_at a i ≡ o → (p i ≡ true) ⊎ (at_link p o ≡ true) → (q i ≡ true) ⊎ (at_link q o ≡ true) → ⊥
      by_link o e (inl z) (inl w) = n i z w
      by_link None e (inr z) w = cc
      by_link None e (inl z) (inr w) = cc
      by_link (Some j) e (inr z) (inr w) = n j z w
      by_link (Some j) e (inr z) (inl w) = lone i j (hq i w) e (hp j z)
      by_link (Some j) e (inl z) (inr w) = lone i j (hp i z) e (hq j w)

  or-held : (ks rs : Shape F) (i : ℕ) → (holds ks i || holds rs i) ≡ true → Holds ks i ⊎ Holds rs i
  or-held ks rs i e = elim (or-cases (holds ks i) (holds rs i) e) [ inl x ↦ inl (holds-Holds ks i x) | inr x ↦ inr (holds-Holds rs i x) ]

  module _ (a : Nodes F) (next : Option ℕ) (id : ℕ) (is : next ≡ Some id) (can : CanMark a next) where
    pub mt : ReadStep a id
    mt = let r = can.read in read-step a id (rw is at r)

    pub mark-live : IsSome (at a id)
    mark-live = core-live a id (core mt.value (first mt.kids) (first mt.rest)) mt.here

    whole : shape_of limit a next ≡ fiber id mt.value mt.kids mt.rest
    whole = ap (shape_of limit a) is ∙ mt.whole

    tree : IsTree (fiber id mt.value mt.kids mt.rest)
    tree = rw whole at can.once

    lone : (i j : ℕ) → Holds (fiber id mt.value mt.kids mt.rest) i → alternate_at a i ≡ Some j → Holds (fiber id mt.value mt.kids mt.rest) j → ⊥
    lone i j p e q = can.apart i j (rw whole p) e (rw whole q)

    module _ (m : F → F) (alternate : Option ℕ) (alternate_is : IfSome (at a id) (λ n. alternate ≡ n.alternate)) (mutual_ : AreMutual a) (o b : Nodes F)
        (one_ : Changes (revalued m) a o id) (two_ : Touches o b alternate m) where
      alt-is : alternate ≡ alternate_at a id
      alt-is = by_slot (at a id) refl mark-live alternate_is
        where
          by_slot : (s : Option (Node F)) → at a id ≡ s → IsSome s → IfSome s (λ n. alternate ≡ n.alternate) → alternate ≡ alternate_at a id
          by_slot None e h g = cc
          by_slot (Some n) e h g = g ∙ sym (ap alternate_in e)

      one : Revalues a b (touched a (λ i. eqb i id) m)
      one = touched-one a o b id alternate m mutual_ alt-is (λ e. lone id id (inl refl) (sym alt-is ∙ e) (inl refl)) one_ two_

      same_b : (i : ℕ) → Holds mt.kids i ⊎ Holds mt.rest i → at b i ≡ at a i
      same_b i h = one.at_each i ∙ skipped (reached a (λ j. eqb j id) i) m (at a i) (false-not (reached a (λ j. eqb j id) i) (λ e. on e))
        where
          below : i ≡ id → ⊥
          below e = elim h [ inl x ↦ tree.0 (rw e at x) | inr x ↦ tree.1 (rw e at x) ]

          by_link : (s : Option ℕ) → alternate_at a i ≡ s → at_link (λ j. eqb j id) s ≡ true → ⊥
          by_link None e q = cc
          by_link (Some y) e q = lone i y (inr h) e (inl (eqb-true y id q))

          on : reached a (λ j. eqb j id) i ≡ true → ⊥
          on e = elim (or-cases (eqb i id) (at_link (λ j. eqb j id) (alternate_at a i)) e) [
            | inl x ↦ below (eqb-true i id x)
            | inr x ↦ by_link (alternate_at a i) refl x
          ]

      alternate_b : (i : ℕ) → alternate_at b i ≡ alternate_at a i
      alternate_b i = alternate-touched a b (λ j. eqb j id) m one i

      kids_b : Reads b mt.kids
      kids_b = Reads-frame a b mt.kids (λ i h. ap (option_map core_of) (same_b i (inl h))) mt.kids_read

      module _ (kids : Option ℕ) (kids_is : IfSome (at a id) (λ n. kids ≡ n.child)) where
        kids_link : kids ≡ first mt.kids
        kids_link = by_slot (at a id) refl kids_is
          where
            by_slot : (s : Option (Node F)) → at a id ≡ s → IfSome s (λ n. kids ≡ n.child) → kids ≡ first mt.kids
            by_slot None f x = let q = ap (option_map core_of) f in let e = mt.here in cc
            by_slot (Some n) f x = let q = ap (option_map core_of) f in let e = mt.here in cc

        kids_shape : shape_of limit b kids ≡ mt.kids
        kids_shape = ap (shape_of limit b) kids_link ∙ shape_of-reads limit b mt.kids kids_b (omega (arith, mt.small))

        pub mark-kids-can : CanMark b kids
        mark-kids-can = record {
          read = rw kids_link (is-read b mt.kids kids_b (omega (arith, mt.small)));
          once = rw kids_shape tree.3;
          apart = λ i j p e q. lone i j (inr (inl (rw kids_shape at p))) (sym (alternate_b i) ∙ e) (inr (inl (rw kids_shape at q)));
        }

        pub mark-kids-smaller : size (shape_of limit b kids) < size (shape_of limit a next)
        mark-kids-smaller = rw (kids_shape, whole) (omega arith)

        module _ (c : Nodes F) (marked_ : Revalues b c (touched b (holds (shape_of limit b kids)) m)) (rest : Option ℕ) (rest_is : IfSome (at a id) (λ n. rest ≡ n.sibling)) where
          marked : Revalues b c (touched b (holds mt.kids) m)
          marked = rw kids_shape at marked_

          lone_b : (i j : ℕ) → Holds (fiber id mt.value mt.kids mt.rest) i → alternate_at b i ≡ Some j → Holds (fiber id mt.value mt.kids mt.rest) j → ⊥
          lone_b i j p e q = lone i j p (sym (alternate_b i) ∙ e) q

          same_c : (i : ℕ) → Holds mt.rest i → at c i ≡ at a i
          same_c i h =
              marked.at_each i
              ∙ skipped (reached b (holds mt.kids) i) m (at b i) (false-not (reached b (holds mt.kids) i) (λ e. on e))
              ∙ same_b i (inr h)
            where
              by_link : (s : Option ℕ) → alternate_at b i ≡ s → at_link (holds mt.kids) s ≡ true → ⊥
              by_link None e q = cc
              by_link (Some y) e q = lone_b i y (inr (inr h)) e (inr (inl (holds-Holds mt.kids y q)))

              on : reached b (holds mt.kids) i ≡ true → ⊥
              on e = elim (or-cases (holds mt.kids i) (at_link (holds mt.kids) (alternate_at b i)) e) [
                | inl x ↦ tree.2 i (holds-Holds mt.kids i x) h
                | inr x ↦ by_link (alternate_at b i) refl x
              ]

          alternate_c : (i : ℕ) → alternate_at c i ≡ alternate_at a i
          alternate_c i = alternate-touched b c (holds mt.kids) m marked i ∙ alternate_b i

          rest_c : Reads c mt.rest
          rest_c = Reads-frame a c mt.rest (λ i h. ap (option_map core_of) (same_c i h)) mt.rest_read

          rest_link : rest ≡ first mt.rest
          rest_link = by_slot (at a id) refl rest_is
            where
              by_slot : (s : Option (Node F)) → at a id ≡ s → IfSome s (λ n. rest ≡ n.sibling) → rest ≡ first mt.rest
              by_slot None f x = let q = ap (option_map core_of) f in let e = mt.here in cc
              by_slot (Some n) f x = let q = ap (option_map core_of) f in let e = mt.here in cc

          rest_shape : shape_of limit c rest ≡ mt.rest
          rest_shape = ap (shape_of limit c) rest_link ∙ shape_of-reads limit c mt.rest rest_c (omega (arith, mt.small))

          pub mark-rest-can : CanMark c rest
          mark-rest-can = record {
            read = rw rest_link (is-read c mt.rest rest_c (omega (arith, mt.small)));
            once = rw rest_shape tree.4;
            apart = λ i j p e q. lone i j (inr (inr (rw rest_shape at p))) (sym (alternate_c i) ∙ e) (inr (inr (rw rest_shape at q)));
          }

          pub mark-rest-smaller : size (shape_of limit c rest) < size (shape_of limit a next)
          mark-rest-smaller = rw (rest_shape, whole) (omega arith)

          pub mark-rest-within : (n : ℕ) → size (shape_of limit a next) ≤ n → size (shape_of limit c rest) ≤ n
          mark-rest-within n h = omega (arith, mark-rest-smaller, h)

          pub mark-gives : (new : Nodes F) → Revalues c new (touched c (holds (shape_of limit c rest)) m) → Revalues a new (touched a (holds (shape_of limit a next)) m)
          mark-gives new r =
              rw whole
              (both-touched a b new (λ i. eqb i id) (λ i. holds mt.kids i || holds mt.rest i) m
              (parts-apart a (fiber id mt.value mt.kids mt.rest) (λ i. eqb i id) (λ i. holds mt.kids i || holds mt.rest i) lone
              (λ i e. inl (eqb-true i id e))
              (λ i e. inr (or-held mt.kids mt.rest i e))
              (λ i e q. not_here i e (or-held mt.kids mt.rest i q)))
              one
              (both-touched b c new (holds mt.kids) (holds mt.rest) m
              (parts-apart b (fiber id mt.value mt.kids mt.rest) (holds mt.kids) (holds mt.rest) lone_b
              (λ i e. inr (inl (holds-Holds mt.kids i e)))
              (λ i e. inr (inr (holds-Holds mt.rest i e)))
              (λ i e q. tree.2 i (holds-Holds mt.kids i e) (holds-Holds mt.rest i q)))
              marked (rw rest_shape at r)))
            where
              not_here : (i : ℕ) → eqb i id ≡ true → Holds mt.kids i ⊎ Holds mt.rest i → ⊥
              not_here i e (inl x) = tree.0 (rw (eqb-true i id e) at x)
              not_here i e (inr x) = tree.1 (rw (eqb-true i id e) at x)

  pub mark-end : (a : Nodes F) (next : Option ℕ) (m : F → F) → next ≡ None → Revalues a a (touched a (holds (shape_of limit a next)) m)
  mark-end a next m e = rw (e, read-end a) (record { at_each = λ i. by_link i (alternate_at a i); live = refl })
    where
      by_link : (i : ℕ) (o : Option ℕ) → at a i ≡ option_map (revalued (λ v. cond (false || at_link (holds {F = F} none) o) (m v) v)) (at a i)
      by_link i None = sym (same-value (at a i))
      by_link i (Some y) = sym (same-value (at a i))
