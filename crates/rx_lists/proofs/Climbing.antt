-- Marks on the way up.
use Rattle.std.proofs.Common.{Bool, true, false, eqb, cond, ◌||◌, ◌≡◌, ◌≢◌, ◌<◌, inl, inr, ℕ, zero, suc, refl, sym, ap, ◌∙◌, IsSome, Some, None, Option, IfSome, option_map, eq-eqb, List, [], ◌∷◌, length, arith}
use Rattle.rx_arena.specs.Nodes.{at, alternate_in, Changes, AreMutual, IsLive}
use Rattle.rx_arena.specs.declared.arena.Node.{Node}
use Rattle.rx_lists.specs.Reads.{Nodes, up_in, up_at, alternate_at, limit}
use Rattle.rx_lists.specs.Shapes.{is_among}
use Rattle.rx_lists.specs.Ways.{ups, AreAlone, IsWay}
use Rattle.rx_lists.specs.Marks.{at_link, revalued, touched, Revalues, Touches}
use Rattle.rx_lists.proofs.Frames.{same_or_not, eqb-false, leads_or_not, some-at}

module _ {F : Type 0} where
  ups-stays : (n : ℕ) (a : Nodes F) (link : Option ℕ) → length (ups n a link) < n → ups (suc n) a link ≡ ups n a link
  unfolding ups
  ups-stays zero a link h = absurd (omega arith)
  ups-stays (suc n) a None h = refl
  ups-stays (suc n) a (Some i) h = ap (λ xs. i ∷ xs) (ups-stays n a (up_at a i) (omega arith))

  ups-step : (n : ℕ) (a : Nodes F) (i : ℕ) → length (ups n a (Some i)) < n → ups n a (Some i) ≡ i ∷ ups n a (up_at a i)
  unfolding ups
  ups-step zero a i h = absurd (omega arith)
  ups-step (suc n) a i h = ap (λ xs. i ∷ xs) (sym (ups-stays n a (up_at a i) (omega arith)))

  ups-none : (n : ℕ) (a : Nodes F) → ups n a None ≡ []
  unfolding ups
  ups-none zero a = refl
  ups-none (suc n) a = refl

  ups-same : (n : ℕ) (a b : Nodes F) (link : Option ℕ) → ((i : ℕ) → up_at b i ≡ up_at a i) → ups n b link ≡ ups n a link
  unfolding ups
  ups-same zero a b link h = refl
  ups-same (suc n) a b None h = refl
  ups-same (suc n) a b (Some i) h = rw (h i) (ap (λ xs. i ∷ xs) (ups-same n a b (up_at a i) h))

  pub up-value : (g : F → F) (s : Option (Node F)) → up_in (option_map (revalued g) s) ≡ up_in s
  up-value g None = refl
  up-value g (Some n) = refl

  pub alternate-value : (g : F → F) (s : Option (Node F)) → alternate_in (option_map (revalued g) s) ≡ alternate_in s
  alternate-value g None = refl
  alternate-value g (Some n) = refl

  pub live-value : (g : F → F) (s : Option (Node F)) → IsSome s → IsSome (option_map (revalued g) s)
  live-value g None h = cc
  live-value g (Some n) h = refl

  pub same-value : (s : Option (Node F)) → option_map (revalued (λ v. v)) s ≡ s
  same-value None = refl
  same-value (Some n) = refl

  module _ (a : Nodes F) (next : Option ℕ) (id : ℕ) (is : next ≡ Some id) (way : IsWay a next) where
    ws : List ℕ
    ws = ups limit a (up_at a id)

    step : ups limit a next ≡ id ∷ ws
    unfolding ws
    step = ap (ups limit a) is ∙ (let e = way.ends in ups-step limit a id (rw is at e))

    alone : AreAlone a (id ∷ ws)
    alone = rw step at way.alone

    pub way-live : IsLive a id
    way-live = alone.0

    module _ (link : Option ℕ) (link_is : IfSome (at a id) (λ n. link ≡ n.up)) where
      pub up-is : link ≡ up_at a id
      up-is = by_slot (at a id) refl alone.0 link_is
        where
          by_slot : (o : Option (Node F)) → at a id ≡ o → IsSome o → IfSome o (λ n. link ≡ n.up) → link ≡ up_at a id
          by_slot None e h g = cc
          by_slot (Some n) e h g = g ∙ sym (ap up_in e)

      module _ (m : F → F) (b c : Nodes F) (alternate : Option ℕ) (alternate_is : IfSome (at a id) (λ n. alternate ≡ n.alternate)) (mutual_ : AreMutual a)
          (first : Changes (revalued m) a b id) (second : Touches b c alternate m) where
        alt-is : alternate ≡ alternate_at a id
        alt-is = by_slot (at a id) refl alone.0 alternate_is
          where
            by_slot : (o : Option (Node F)) → at a id ≡ o → IsSome o → IfSome o (λ n. alternate ≡ n.alternate) → alternate ≡ alternate_at a id
            by_slot None e h g = cc
            by_slot (Some n) e h g = g ∙ sym (ap alternate_in e)

        not-own : alternate ≢ Some id
        not-own e =
            let q = alone.2 id (sym alt-is ∙ e) in
            let r = eq-eqb id id refl in
            let z : true ≡ false = sym (rw r refl) ∙ q in cc

        here : at c id ≡ option_map (revalued m) (at a id)
        here = second.others id not-own ∙ first.changed

        there : (i : ℕ) → alternate_at a id ≡ Some i → at c i ≡ option_map (revalued m) (at a i)
        there i e =
            some-at alternate (λ j. at c j ≡ option_map (revalued m) (at b j)) i second.here (alt-is ∙ e)
            ∙ ap (option_map (revalued m)) (first.others i (λ q. not-own (alt-is ∙ rw q at e)))

        elsewhere : (i : ℕ) → i ≢ id → alternate_at a id ≢ Some i → at c i ≡ at a i
        elsewhere i n k = second.others i (λ e. k (sym alt-is ∙ e)) ∙ first.others i n

        data Case (i : ℕ) : Type 0 where
          own : i ≡ id → Case i
          other : alternate_at a id ≡ Some i → Case i
          none_of : i ≢ id → alternate_at a id ≢ Some i → Case i

        case : (i : ℕ) → Case i
        case i = elim (same_or_not i id) [
          | inl e ↦ own e
          | inr n ↦ elim (leads_or_not (alternate_at a id) i) [ inl e ↦ other e | inr k ↦ none_of n k ]
        ]

        ups_same : (i : ℕ) → up_at c i ≡ up_at a i
        ups_same i = elim (case i) [
          | own e ↦ rw e (ap up_in here ∙ up-value m (at a id))
          | other e ↦ ap up_in (there i e) ∙ up-value m (at a i)
          | none_of n k ↦ ap up_in (elsewhere i n k)
        ]

        alternates_same : (i : ℕ) → alternate_at c i ≡ alternate_at a i
        alternates_same i = elim (case i) [
          | own e ↦ rw e (ap alternate_in here ∙ alternate-value m (at a id))
          | other e ↦ ap alternate_in (there i e) ∙ alternate-value m (at a i)
          | none_of n k ↦ ap alternate_in (elsewhere i n k)
        ]

        live_same : (i : ℕ) → IsSome (at a i) → IsSome (at c i)
        live_same i s = elim (case i) [
          | own e ↦ rw (e, here) (live-value m (at a id) (rw e at s))
          | other e ↦ rw (there i e) (live-value m (at a i) s)
          | none_of n k ↦ rw (elsewhere i n k) s
        ]

        alone_same : (xs : List ℕ) → AreAlone a xs → AreAlone c xs
        alone_same [] h = tt
        alone_same (x ∷ xs) h =
            (live_same x h.0, h.1, λ y e. h.2 y (sym (alternates_same x) ∙ e), alone_same xs h.3)

        rest_ups : ups limit c link ≡ ws
        unfolding ws
        rest_ups = ap (ups limit c) up-is ∙ ups-same limit a c (up_at a id) ups_same

        pub way-rest : IsWay c link
        way-rest = record {
          ends = rw rest_ups (let e = way.ends in let q = ap length step in omega arith);
          alone = rw rest_ups (alone_same ws alone.3);
        }

        pub way-smaller : length (ups limit c link) < length (ups limit a next)
        way-smaller = rw (rest_ups, step) (omega arith)

        or-true : (x : Bool) → (x || true) ≡ true
        or-true true = refl
        or-true false = refl

        or-left : (x y : Bool) → (x || y) ≡ false → x ≡ false
        or-left true y e = cc
        or-left false y e = refl

        or-right : (x y : Bool) → (x || y) ≡ false → y ≡ false
        or-right true y e = cc
        or-right false y e = e

        Is : List ℕ → ℕ → Bool
        Is xs i = is_among xs i || at_link (is_among xs) (alternate_at a i)

        if-true : (x : Bool) (s : Option (Node F)) → x ≡ true → option_map (revalued (λ v. cond x (m v) v)) s ≡ option_map (revalued m) s
        if-true x s e = rw e refl

        if-false : (x : Bool) (s : Option (Node F)) → x ≡ false → option_map (revalued (λ v. cond x (m v) v)) s ≡ s
        if-false x s e = rw e (same-value s)

        own_in : Is (id ∷ ws) id ≡ true
        unfolding Is
        own_in = rw (eq-eqb id id refl) refl

        own_out : Is ws id ≡ false
        unfolding Is
        own_out = rw alone.1 (by_link (alternate_at a id) refl)
          where
            by_link : (o : Option ℕ) → alternate_at a id ≡ o → at_link (is_among ws) o ≡ false
            by_link None e = refl
            by_link (Some y) e = or-right (eqb id y) (is_among ws y) (alone.2 y e)

        other_in : (i : ℕ) → alternate_at a id ≡ Some i → Is (id ∷ ws) i ≡ true
        unfolding Is
        other_in i e = rw (mutual_.back id i e, eq-eqb id id refl) (or-true (is_among (id ∷ ws) i))

        other_out : (i : ℕ) → alternate_at a id ≡ Some i → Is ws i ≡ false
        unfolding Is
        other_out i e = rw (or-right (eqb id i) (is_among ws i) (alone.2 i e), mutual_.back id i e) alone.1

        none_same : (i : ℕ) → i ≢ id → alternate_at a id ≢ Some i → Is (id ∷ ws) i ≡ Is ws i
        unfolding Is
        none_same i n k = rw (eqb-false id i (λ e. n (sym e)), by_link (alternate_at a i) refl) refl
          where
            by_link : (o : Option ℕ) → alternate_at a i ≡ o → at_link (is_among (id ∷ ws)) o ≡ at_link (is_among ws) o
            by_link None e = refl
            by_link (Some y) e = rw (eqb-false id y (λ q. k (mutual_.back i id (rw q e)))) refl

        pub way-gives : (new : Nodes F) → Revalues c new (touched c (is_among (ups limit c link)) m) → Revalues a new (touched a (is_among (ups limit a next)) m)
        unfolding Is
        way-gives new r_ = record { at_each = each; live = r.live ∙ second.live ∙ first.live }
          where
            r : Revalues c new (touched c (is_among ws) m)
            r = rw rest_ups at r_

            then_ : (i : ℕ) → at new i ≡ option_map (revalued (λ v. cond (Is ws i) (m v) v)) (at c i)
            then_ i =
                r.at_each i
                ∙ ap (λ o. option_map (revalued (λ v. cond (is_among ws i || at_link (is_among ws) o) (m v) v)) (at c i)) (alternates_same i)

            each : (i : ℕ) → at new i ≡ option_map (revalued (touched a (is_among (ups limit a next)) m i)) (at a i)
            each i = rw step (elim (case i) [
              | own e ↦
                  rw e (then_ id ∙ if-false (Is ws id) (at c id) own_out ∙ here ∙ sym (if-true (Is (id ∷ ws) id) (at a id) own_in))
              | other e ↦
                  then_ i ∙ if-false (Is ws i) (at c i) (other_out i e) ∙ there i e ∙ sym (if-true (Is (id ∷ ws) i) (at a i) (other_in i e))
              | none_of n k ↦ then_ i ∙ rw (elsewhere i n k, ← none_same i n k) refl
            ])

  pub way-end : (a : Nodes F) (next : Option ℕ) (m : F → F) → next ≡ None → Revalues a a (touched a (is_among (ups limit a next)) m)
  way-end a next m e = rw (e, ups-none limit a) (record { at_each = λ i. by_link i (alternate_at a i); live = refl })
    where
      by_link : (i : ℕ) (o : Option ℕ) → at a i ≡ option_map (revalued (λ v. cond (false || at_link (is_among []) o) (m v) v)) (at a i)
      by_link i None = sym (same-value (at a i))
      by_link i (Some y) = sym (same-value (at a i))
