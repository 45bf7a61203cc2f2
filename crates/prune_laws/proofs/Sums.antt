-- Sums over the places of a list, and over those of them that are picked.
use Rattle.std.proofs.Common.{◌≡◌, ℕ, zero, suc, ◌+◌, ◌≤◌, Bool, true, false, ◌||◌, cond, nat_eq, Option, Some, None, List, [], ◌∷◌, slice_get, refl, sym, ap, ◌∙◌, arith}
use Rattle.std.proofs.lemmas.Bool.Decides.{nat_tests}
use Rattle.rx_elem.specs.Identity.{is_reused}

-- the sum over so many places
abbrev pub total : ℕ → (ℕ → ℕ) → ℕ
total zero f = 0
total (suc n) f = f 0 + total n (λ j. f (suc j))

-- the sum over the places that are picked
abbrev pub picked : (ℕ → ℕ) → List (Option ℕ) → ℕ
picked f [] = 0
picked f (None ∷ ps) = picked f ps
picked f (Some p ∷ ps) = f p + picked f ps

-- f with what g has at a place
abbrev exchanged : (f g : ℕ → ℕ) → ℕ → ℕ → ℕ
exchanged f g p j = cond (nat_eq j p) (g p) (f j)

total_agrees : (n : ℕ) (f g : ℕ → ℕ) → ((j : ℕ) → f j ≡ g j) → total n f ≡ total n g
total_agrees zero f g same = refl
total_agrees (suc n) f g same = omega (arith, same 0, total_agrees n (λ j. f (suc j)) (λ j. g (suc j)) (λ j. same (suc j)))

itself : (p : ℕ) → nat_eq p p ≡ true
itself p = grind (arith, nat_tests)

-- at the place it is g, and elsewhere f
exchanged_there : (f g : ℕ → ℕ) (p : ℕ) → exchanged f g p p ≡ g p
exchanged_there f g p = ap (λ b. cond b (g p) (f p)) (itself p)

exchanged_elsewhere : (f g : ℕ → ℕ) (p j : ℕ) → nat_eq j p ≡ false → exchanged f g p j ≡ f j
exchanged_elsewhere f g p j e = ap (λ b. cond b (g p) (f j)) e

-- the sum changes by what is exchanged
total_exchanged : (n : ℕ) (f g : ℕ → ℕ) (p : ℕ) → (n ≤ p → f p ≡ g p) → total n f + g p ≡ total n (exchanged f g p) + f p
total_exchanged zero f g p past = omega (arith, past (omega arith))
total_exchanged (suc n) f g zero past =
    let rest = total_agrees n (λ j. exchanged f g zero (suc j)) (λ j. f (suc j)) (λ j. exchanged_elsewhere f g zero (suc j) (grind (arith, nat_tests))) in
    omega (arith, rest, exchanged_there f g zero)
total_exchanged (suc n) f g (suc p) past =
    let rest = total_agrees n (λ j. exchanged f g (suc p) (suc j)) (exchanged (λ j. f (suc j)) (λ j. g (suc j)) p)
    (λ j. let same : nat_eq (suc j) (suc p) ≡ nat_eq j p = grind (arith, nat_tests) in ap (λ b. cond b (g (suc p)) (f (suc j))) same) in
    let first = exchanged_elsewhere f g (suc p) zero (grind (arith, nat_tests)) in
    omega (arith, rest, first, total_exchanged n (λ j. f (suc j)) (λ j. g (suc j)) p (λ le. past (omega arith)))

-- no place is picked twice
abbrev pub PickedOnce : List (Option ℕ) → Type 0
PickedOnce ps = (i j p : ℕ) → slice_get ps i ≡ Some (Some p) → slice_get ps j ≡ Some (Some p) → i ≡ j

picked_agrees : (f g : ℕ → ℕ) (ps : List (Option ℕ)) → ((i p : ℕ) → slice_get ps i ≡ Some (Some p) → f p ≡ g p) → picked f ps ≡ picked g ps
picked_agrees f g [] same = refl
picked_agrees f g (None ∷ ps) same = picked_agrees f g ps (λ i p at. same (suc i) p at)
picked_agrees f g (Some q ∷ ps) same = omega (arith, same 0 q refl, picked_agrees f g ps (λ i p at. same (suc i) p at))

same_place : (j p : ℕ) → nat_eq j p ≡ true → j ≡ p
same_place j p e = grind (arith, nat_tests)

-- if two sums agree at each place that is not picked, they differ by what is picked
pub picked_differ : (n : ℕ) (f g : ℕ → ℕ) (ps : List (Option ℕ)) → PickedOnce ps → ((p : ℕ) → n ≤ p → f p ≡ g p) → ((p : ℕ) → is_reused ps p ≡ false → f p ≡ g p)
    → total n f + picked g ps ≡ total n g + picked f ps
picked_differ n f g [] once past same = ap (λ t. t + 0) (total_agrees n f g (λ p. same p refl))
picked_differ n f g (None ∷ ps) once past same = picked_differ n f g ps (λ i j p a b. let e = once (suc i) (suc j) p a b in omega arith) past same
picked_differ n f g (Some q ∷ ps) once past same =
    let rest = picked_differ n (exchanged f g q) g ps (λ i j p a b. let e = once (suc i) (suc j) p a b in omega arith) beyond elsewhere in
    omega (arith, rest, total_exchanged n f g q (past q), picked_agrees (exchanged f g q) f ps others)
  where
    beyond : (p : ℕ) → n ≤ p → exchanged f g q p ≡ g p
    beyond p le = go (nat_eq p q) refl
      where
        go : (b : Bool) → nat_eq p q ≡ b → cond b (g q) (f p) ≡ g p
        go true e = ap g (sym (same_place p q e))
        go false e = past p le

    elsewhere : (p : ℕ) → is_reused ps p ≡ false → exchanged f g q p ≡ g p
    elsewhere p free = go (nat_eq p q) refl
      where
        go : (b : Bool) → nat_eq p q ≡ b → cond b (g q) (f p) ≡ g p
        go true e = ap g (sym (same_place p q e))
        go false e = same p (ap (λ b. b || is_reused ps p) e ∙ free)

    others : (i p : ℕ) → slice_get ps i ≡ Some (Some p) → exchanged f g q p ≡ f p
    others i p at = exchanged_elsewhere f g q p (differ (nat_eq p q) refl)
      where
        differ : (b : Bool) → nat_eq p q ≡ b → b ≡ false
        differ true e = let at_first : slice_get (Some q ∷ ps) zero ≡ Some (Some p) = ap (λ (r : ℕ). let o : Option (Option ℕ) = Some (Some r) in o) (sym (same_place p q e)) in
            let twice = once zero (suc i) p at_first at in
            absurd (omega arith)
        differ false e = refl
