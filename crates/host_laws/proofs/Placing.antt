-- Putting each placed host before the next sibling that stands gives the new list.
use Rattle.std.specs.Prelude.{◌≡◌, ℕ, Bool, true, false, ◌||◌, List, [], ◌∷◌, ◌++◌, Option, Some, None, filter, nat_eq, refl}
use Rattle.std.proofs.Common.{◌∙◌, ap, arith}
use Rattle.std.proofs.lemmas.Bool.Decides.{nat_tests, Decides-eqb}
use Rattle.std.proofs.lemmas.List.Elements.{filter-append}
use Rattle.rx_forest.specs.Forests.{is_among, without, insert_before, inserted}

-- a test beside one number more
abbrev pub or_is : (ℕ → Bool) → ℕ → ℕ → Bool
or_is p n m = p m || nat_eq m n

pub neither : (a b : Bool) → (a || b) ≡ false → (a ≡ false) × (b ≡ false)
neither true b h = absurd (cc)
neither false b h = (refl, h)

not_eq : (m n : ℕ) → (m ≡ n → ⊥) → nat_eq m n ≡ false
not_eq m n h = grind (arith, nat_tests)

-- a list without a number, under a test that also lets that number pass, is the list under the test
pub settled_without : (p : ℕ → Bool) (n : ℕ) → p n ≡ false → (ms : List ℕ) → filter (or_is p n) (without n ms) ≡ filter p ms
settled_without p n new [] = refl
settled_without p n new (m ∷ ms) = go (settled_without p n new ms) (nat_eq m n) refl (p m) refl
  where
    go : filter (or_is p n) (without n ms) ≡ filter p ms → (b : Bool) → nat_eq m n ≡ b → (c : Bool) → p m ≡ c
        → filter (or_is p n) (without n (m ∷ ms)) ≡ filter p (m ∷ ms)
    go rest true e true f = let same : m ≡ n = (Decides-eqb m n).0 e in absurd (cc (ap p same))
    go rest true e false f = rw (e, f) rest
    go rest false e true f = rw (e, f) (ap (λ xs. m ∷ xs) rest)
    go rest false e false f = rw (e, f, e) rest

pub filter_insert_before : (p : ℕ → Bool) (n b : ℕ) → p n ≡ true → p b ≡ true → (ms : List ℕ)
    → filter p (insert_before n b ms) ≡ insert_before n b (filter p ms)
filter_insert_before p n b new stands [] = rw new refl
filter_insert_before p n b new stands (m ∷ ms) = go (filter_insert_before p n b new stands ms) (nat_eq m b) refl (p m) refl
  where
    go : filter p (insert_before n b ms) ≡ insert_before n b (filter p ms) → (t : Bool) → nat_eq m b ≡ t → (c : Bool) → p m ≡ c
        → filter p (insert_before n b (m ∷ ms)) ≡ insert_before n b (filter p (m ∷ ms))
    go rest true e true f = rw (e, new, f, e) refl
    go rest true e false f = let same : m ≡ b = (Decides-eqb m b).0 e in absurd (cc (ap p same))
    go rest false e true f = rw (e, f, e) (ap (λ xs. m ∷ xs) rest)
    go rest false e false f = rw (e, f) rest

pub filter_inserted : (p : ℕ → Bool) (n : ℕ) (before : Option ℕ) → p n ≡ true → ((b : ℕ) → before ≡ Some b → p b ≡ true) → (ms : List ℕ)
    → filter p (inserted n before ms) ≡ inserted n before (filter p ms)
filter_inserted p n None new stands ms = filter-append p ms (n ∷ []) ∙ rw new refl
filter_inserted p n (Some b) new stands ms = filter_insert_before p n b new (stands b refl) ms

pub insert_before_first : (n b : ℕ) (xs ys : List ℕ) → is_among xs b ≡ false → insert_before n b (xs ++ b ∷ ys) ≡ xs ++ n ∷ b ∷ ys
insert_before_first n b [] ys h = rw ((Decides-eqb b b).1 refl) refl
insert_before_first n b (x ∷ xs) ys h =
    let parts : (nat_eq b x ≡ false) × (is_among xs b ≡ false) = neither _ _ h in
    let other : nat_eq x b ≡ false = let e = parts.0 in grind (arith, nat_tests) in
    rw other (ap (λ zs. x ∷ zs) (insert_before_first n b xs ys parts.1))
