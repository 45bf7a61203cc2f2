-- What the children that don't move contribute comes in the old order: one step of the comparison of two trees.
use Rattle.std.specs.Prelude.{◌≡◌, ℕ, zero, suc, ◌+◌, ◌<◌, ◌≤◌, Bool, true, false, ◌||◌, ◌⊎◌, List, [], ◌∷◌, ◌++◌, Option, Some, None, max, flat_map, slice_get, nat_eq, nat_lt, refl, if◌then◌else◌}
use Rattle.std.specs.List.{range_with_len}
use Rattle.std.proofs.Common.{sym, ◌∙◌, ap, arith, inl, inr}
use Rattle.std.proofs.lemmas.Bool.{cases_lt}
use Rattle.std.proofs.lemmas.Bool.Decides.{nat_tests, Decides-eqb}
use Rattle.host_laws.specs.Related.{AreApart}
use Rattle.rx_forest.specs.Forests.{is_among}

-- the places of the reused children that don't move
abbrev pub unmoved : ℕ → List (Option ℕ) → List ℕ
unmoved top [] = []
unmoved top (None ∷ ps) = unmoved top ps
unmoved top (Some p ∷ ps) = if nat_lt (p + 1) top then unmoved (max top (p + 1)) ps else p ∷ unmoved (max top (p + 1)) ps

-- numbers that rise strictly, from a number on
abbrev pub Rise : ℕ → List ℕ → Type 0
Rise a [] = Unit {0}
Rise a (u ∷ us) = (a ≤ u) × Rise (u + 1) us

Rise-from : (a b : ℕ) (us : List ℕ) → a ≤ b → Rise b us → Rise a us
Rise-from a b [] h r = tt
Rise-from a b (u ∷ us) h r = let low : b ≤ u = r.0 in (omega arith, r.1)

-- no two places are one, and none is just below the top
pub unmoved_rises : (top : ℕ) (ps : List (Option ℕ)) → AreApart ps → ((i p : ℕ) → slice_get ps i ≡ Some (Some p) → p + 1 ≡ top → ⊥) → Rise top (unmoved top ps)
unmoved_rises top [] a t = tt
unmoved_rises top (None ∷ ps) a t =
    unmoved_rises top ps (λ i j p h k. same_suc i j (a (suc i) (suc j) p h k)) (λ i p h. t (suc i) p h)
  where
    same_suc : (i j : ℕ) → suc i ≡ suc j → i ≡ j
    same_suc i j e = omega arith
unmoved_rises top (Some q ∷ ps) a t =
    go (unmoved_rises (max top (q + 1)) ps (λ i j p h k. same_suc i j (a (suc i) (suc j) p h k)) next) (nat_lt (q + 1) top) refl
  where
    same_suc : (i j : ℕ) → suc i ≡ suc j → i ≡ j
    same_suc i j e = omega arith

    next : (i p : ℕ) → slice_get ps i ≡ Some (Some p) → p + 1 ≡ max top (q + 1) → ⊥
    next i p h e = which (cases_lt top (q + 1))
      where
        which : (top < q + 1) ⊎ (q + 1 ≤ top) → ⊥
        which (inl l) =
            let same : p ≡ q = omega arith in
            let again : 0 ≡ suc i = a 0 (suc i) q refl (h ∙ ap (λ p. Some (Some p)) same) in absurd (omega arith)
        which (inr l) = t (suc i) p h (omega arith)

    go : Rise (max top (q + 1)) (unmoved (max top (q + 1)) ps) → (b : Bool) → nat_lt (q + 1) top ≡ b → Rise top (if b then unmoved (max top (q + 1)) ps else q ∷ unmoved (max top (q + 1)) ps)
    go r true e = Rise-from top (max top (q + 1)) (unmoved (max top (q + 1)) ps) (omega arith) r
    go r false e =
        let high : top ≤ q + 1 = grind (arith, nat_tests) in
        let other : q + 1 ≡ top → ⊥ = t 0 q refl in
        (above high other, Rise-from (q + 1) (max top (q + 1)) (unmoved (max top (q + 1)) ps) (omega arith) r)
      where
        above : top ≤ q + 1 → (q + 1 ≡ top → ⊥) → top ≤ q
        above high other = elim (cases_lt q top) [ inl l ↦ absurd (other (omega arith)) | inr l ↦ l ]

not_in_rise : (a : ℕ) (us : List ℕ) (n : ℕ) → n < a → Rise a us → is_among us n ≡ false
not_in_rise a [] n h r = refl
not_in_rise a (u ∷ us) n h r =
    let low : a ≤ u = r.0 in
    let other : nat_eq n u ≡ false = grind (arith, nat_tests) in
    rw other (not_in_rise (u + 1) us n (omega arith) r.1)

-- what stands at no place contributes nothing
pub only_rising : {X : Type 0} (G : ℕ → List X) (a k : ℕ) (us : List ℕ) → Rise a us → ((n : ℕ) → is_among us n ≡ true → n < a + k)
    → ((n : ℕ) → a ≤ n → n < a + k → is_among us n ≡ false → G n ≡ []) → flat_map G (range_with_len a k) ≡ flat_map G us
only_rising G a zero [] r around_children empty = refl
only_rising G a zero (u ∷ us) r around_children empty =
    let low : a ≤ u = r.0 in
    let self : is_among (u ∷ us) u ≡ true = ap (λ b. b || is_among us u) ((Decides-eqb u u).1 refl) in
    let high : u < a + 0 = around_children u self in absurd (omega arith)
only_rising G a (suc k) [] r around_children empty =
    rw (empty a (omega arith) (omega arith) refl) (only_rising G (a + 1) k [] tt (λ n h. absurd (cc)) (λ n l h i. empty n (omega arith) (omega arith) i))
only_rising {X} G a (suc k) (u ∷ us) r around_children empty =
    go (λ r w e. only_rising G (a + 1) k us r w e) (λ r w e. only_rising G (a + 1) k (u ∷ us) r w e) (nat_eq u a) refl
  where
    or_in : (b c : Bool) → c ≡ true → (b || c) ≡ true
    or_in true c h = refl
    or_in false c h = h

    go : (Rise (a + 1) us → ((n : ℕ) → is_among us n ≡ true → n < (a + 1) + k)
        → ((n : ℕ) → a + 1 ≤ n → n < (a + 1) + k → is_among us n ≡ false → G n ≡ []) → flat_map G (range_with_len (a + 1) k) ≡ flat_map G us)
        → (Rise (a + 1) (u ∷ us) → ((n : ℕ) → is_among (u ∷ us) n ≡ true → n < (a + 1) + k)
        → ((n : ℕ) → a + 1 ≤ n → n < (a + 1) + k → is_among (u ∷ us) n ≡ false → G n ≡ []) → flat_map G (range_with_len (a + 1) k) ≡ flat_map G (u ∷ us))
        → (b : Bool) → nat_eq u a ≡ b → flat_map G (range_with_len a (suc k)) ≡ flat_map G (u ∷ us)
    go one two true e =
        let same : u ≡ a = (Decides-eqb u a).0 e in
        let rest : flat_map G (range_with_len (a + 1) k) ≡ flat_map G us = one (rw same at r.1)
        (λ n h. let w : n < a + suc k = around_children n (or_in (nat_eq n u) _ h) in omega arith)
        (λ n l h i. let other : nat_eq n u ≡ false = grind (arith, nat_tests) in empty n (omega arith) (omega arith) (rw other i)) in
        ap (λ x. G x ++ flat_map G (range_with_len (a + 1) k)) (sym same) ∙ ap (λ xs. G u ++ xs) rest
    go one two false e =
        let low : a ≤ u = r.0 in
        let more : a + 1 ≤ u = grind (arith, nat_tests) in
        let rises : Rise (a + 1) (u ∷ us) = (more, r.1) in
        let nothing : G a ≡ [] = empty a (omega arith) (omega arith) (not_in_rise (a + 1) (u ∷ us) a (omega arith) rises) in
        rw nothing (two rises (λ n h. let w : n < a + suc k = around_children n h in omega arith) (λ n l h i. empty n (omega arith) (omega arith) i))

-- What each new child contributes, by what the old child at its place does: a new or moved child nothing, any other the same
abbrev pub Contribute : {X : Type 0} → (ℕ → List X) → ℕ → List (Option ℕ) → List (List X) → Type 0
Contribute G top [] [] = Unit {0}
Contribute G top [] (x ∷ xs) = ⊥
Contribute G top (p ∷ ps) [] = ⊥
Contribute G top (None ∷ ps) (x ∷ xs) = (x ≡ []) × Contribute G top ps xs
Contribute G top (Some p ∷ ps) (x ∷ xs) = (x ≡ (if nat_lt (p + 1) top then [] else G p)) × Contribute G (max top (p + 1)) ps xs

-- lists joined end to end
abbrev pub joined : {X : Type 0} → List (List X) → List X
joined [] = []
joined (x ∷ xs) = x ++ joined xs

by_unmoved : {X : Type 0} (G : ℕ → List X) (top : ℕ) (ps : List (Option ℕ)) (xs : List (List X)) → Contribute G top ps xs → joined xs ≡ flat_map G (unmoved top ps)
by_unmoved G top [] [] c = refl
by_unmoved G top [] (x ∷ xs) c = absurd c
by_unmoved G top (p ∷ ps) [] c = absurd c
by_unmoved G top (None ∷ ps) (x ∷ xs) c = rw (c.0) (by_unmoved G top ps xs c.1)
by_unmoved {X} G top (Some p ∷ ps) (x ∷ xs) c =
    ap (λ y. y ++ joined xs) c.0 ∙ go (by_unmoved G (max top (p + 1)) ps xs c.1) (nat_lt (p + 1) top)
  where
    go : joined xs ≡ flat_map G (unmoved (max top (p + 1)) ps) → (b : Bool)
        → (if b then [] else G p) ++ joined xs ≡ flat_map G (if b then unmoved (max top (p + 1)) ps else p ∷ unmoved (max top (p + 1)) ps)
    go rest true = rest
    go rest false = ap (λ ys. G p ++ ys) rest

-- If places without an unmoved child contribute nothing, the new children in their order contribute what the old ones do in theirs.
pub order_is_kept : {X : Type 0} (G : ℕ → List X) (ps : List (Option ℕ)) (k : ℕ) (xs : List (List X)) → AreApart ps → Contribute G 0 ps xs
    → ((p : ℕ) → is_among (unmoved 0 ps) p ≡ true → p < k) → ((p : ℕ) → p < k → is_among (unmoved 0 ps) p ≡ false → G p ≡ [])
    → joined xs ≡ flat_map G (range_with_len 0 k)
order_is_kept G ps k xs apart c around_children empty =
    by_unmoved G 0 ps xs c
    ∙ sym (only_rising G 0 k (unmoved 0 ps) (unmoved_rises 0 ps apart (λ i p h e. absurd (omega arith)))
    (λ n h. let w : n < k = around_children n h in omega arith) (λ n l h i. empty n (omega arith) i))
