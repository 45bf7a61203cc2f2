-- Where the host of a number stands.
use Rattle.std.proofs.Common.{◌≡◌, ℕ, suc, ◌+◌, ◌<◌, Bool, true, false, ◌||◌, cond, List, [], ◌∷◌, Option, Some, None, is_some, slice_get, get_or, drop, take, length, nat_eq, refl, sym, ap, ◌∙◌, arith}
use Rattle.std.proofs.lemmas.Bool.Decides.{Decides-eqb}
use Rattle.std.proofs.lemmas.List.Folds.{list_any_more}
use Rattle.std.proofs.lemmas.Option.{slice_get_past, slice_get-get_or}
use Rattle.std.specs.Borrow.{Bor}
use Rattle.std.specs.List.{find, list_any, position_from}
use Rattle.std.specs.Option.{option_copied}
use Rattle.std.specs.Slice.{IsItemAt}
use Rattle.rx_host_ops.proofs.Lists.{front}

-- the first place at which a test passes has what is found
pub found_at : {X : Type 0} (t : X → Bool) (k : ℕ) (xs : List X) (i : ℕ) → position_from t k xs ≡ Some i → (j : ℕ) × (i ≡ k + j) × (find t xs ≡ slice_get xs j)
found_at t k [] i e = absurd (cc)
found_at {X} t k (x ∷ xs) i e = go (λ f. found_at t (k + 1) xs i f) (t x) e
  where
    go : (position_from t (k + 1) xs ≡ Some i → (j : ℕ) × (i ≡ k + 1 + j) × (find t xs ≡ slice_get xs j))
        → (b : Bool) → cond b (Some k) (position_from t (k + 1) xs) ≡ Some i → (j : ℕ) × (i ≡ k + j) × (cond b (Some x) (find t xs) ≡ slice_get (x ∷ xs) j)
    go next true e = let same : k ≡ i = cc in (0, omega arith, refl)
    go next false e = let r = next e in (suc r.0, omega (arith, r.1), r.2)

-- if a test passes nowhere, nothing is found
pub found_nowhere : {X : Type 0} (t : X → Bool) (k : ℕ) (xs : List X) → position_from t k xs ≡ None → find t xs ≡ None
found_nowhere t k [] e = refl
found_nowhere {X} t k (x ∷ xs) e = go (λ f. found_nowhere t (k + 1) xs f) (t x) e
  where
    go : (position_from t (k + 1) xs ≡ None → find t xs ≡ None) → (b : Bool) → cond b (Some k) (position_from t (k + 1) xs) ≡ None → cond b (Some x) (find t xs) ≡ None
    go next true e = absurd (cc)
    go next false e = next e

-- a test passes somewhere if it passes for any
pub is_some-position_from : {X : Type 0} (t : X → Bool) (k : ℕ) (xs : List X) → is_some (position_from t k xs) ≡ list_any t xs
is_some-position_from t k [] = refl
is_some-position_from {X} t k (x ∷ xs) = go (is_some-position_from t (k + 1) xs) (t x)
  where
    go : is_some (position_from t (k + 1) xs) ≡ list_any t xs → (b : Bool) → is_some (cond b (Some k) (position_from t (k + 1) xs)) ≡ (b || list_any t xs)
    go next true = refl
    go next false = next

-- the element there is what is found
pub found_is : {X : Type 0} (t : X → Bool) (xs : List X) (i : ℕ) → position_from t 0 xs ≡ Some i → slice_get xs i ≡ find t xs
found_is t xs i e =
    let r = found_at t 0 xs i e in
    let same : i ≡ r.0 = omega (arith, r.1) in
    ap (slice_get xs) same ∙ sym r.2

-- what a slice lends at a place is the element there
pub lent_is : {X : Type 0} (xs : List X) (i : ℕ) (r : Option (Bor X)) → IsItemAt xs i r → option_copied r ≡ slice_get xs i
lent_is xs i None h = sym (slice_get_past xs i h.3)
lent_is xs i (Some x) h = sym (slice_get-get_or xs i x.now h.3.0 ∙ ap Some (sym h.1))

-- the first place from one place earlier on is that one, or as it was
pub more-places : {X : Type 0} (t : X → Bool) (xs : List X) (k j : ℕ) (x : X) → k ≡ j + 1 → j < length xs → x ≡ get_or xs j x
    → cond (t x) (Some j) (position_from t k (drop k xs)) ≡ position_from t j (drop j xs)
more-places t xs k j x h g e =
    ap (λ i. cond (t x) (Some j) (position_from t i (drop i xs))) h
    ∙ sym (ap (position_from t j) (front xs j x g e))

-- whether numbers are equal is the same the other way round
nat_eq-sym : (a b : ℕ) (t : Bool) → nat_eq a b ≡ t → nat_eq b a ≡ t
nat_eq-sym a b true h = (Decides-eqb b a).1 (sym ((Decides-eqb a b).0 h))
nat_eq-sym a b false h = go (nat_eq b a) refl
  where
    go : (t : Bool) → nat_eq b a ≡ t → t ≡ false
    go true e = let yes : nat_eq a b ≡ true = (Decides-eqb a b).1 (sym ((Decides-eqb b a).0 e)) in absurd (cc)
    go false e = refl

-- one number more for which something is noted
pub more-numbers : (numbers : List ℕ) (k n : ℕ) (before after : Option ℕ) → k < length numbers
    → after ≡ cond (nat_eq (get_or numbers k 0) n) (Some (get_or numbers k 0)) before
    → is_some before ≡ list_any (nat_eq n) (take k numbers) → is_some after ≡ list_any (nat_eq n) (take (k + 1) numbers)
more-numbers numbers k n before after h e f = ap is_some e ∙ go (nat_eq x n) refl ∙ sym (list_any_more (nat_eq n) numbers k 0 h)
  where
    x : ℕ
    x = get_or numbers k 0

    or-true : (b : Bool) → (b || true) ≡ true
    or-true true = refl
    or-true false = refl

    or-false : (b : Bool) → (b || false) ≡ b
    or-false true = refl
    or-false false = refl

    go : (t : Bool) → nat_eq x n ≡ t → is_some (cond t (Some x) before) ≡ (list_any (nat_eq n) (take k numbers) || nat_eq n x)
    go true e = sym (ap (λ b. list_any (nat_eq n) (take k numbers) || b) (nat_eq-sym x n true e) ∙ or-true (list_any (nat_eq n) (take k numbers)))
    go false e = f ∙ sym (ap (λ b. list_any (nat_eq n) (take k numbers) || b) (nat_eq-sym x n false e) ∙ or-false (list_any (nat_eq n) (take k numbers)))
