-- Where a number is first among a few, and what is noted if they become more.
use Rattle.std.proofs.Common.{◌≡◌, ℕ, zero, suc, ◌+◌, ◌<◌, Bool, true, false, cond, nat_eq, nat_lt, Option, None, Some, List, [], ◌∷◌, ◌++◌, length, option_map, slice_get, refl, sym, ap, ◌∙◌, subst, arith}
use Rattle.std.proofs.lemmas.Bool.Decides.{nat_tests}
use Rattle.rx_set.specs.declared.places.Places.{Places}
use Rattle.rx_set.specs.Places.{AreNoted, first_place, place_in, place_of}
use Rattle.rx_set.specs.Sets.{IsWithout, holds}
use Rattle.rx_set.proofs.Holding.{itself, same_number}
use Rattle.rx_set.proofs.Noting.{noted_more, noted_moved, noted_still, noted_without, one_of}

-- a number is first where it stands if it stands nowhere before
pub first_at : (xs : List ℕ) (n i : ℕ) → slice_get xs i ≡ Some n → ((j : ℕ) → j < i → slice_get xs j ≡ Some n → ⊥) → first_place xs n ≡ Some i
first_at [] n i at before = absurd (let f : ⊥ = cc in f)
first_at (x ∷ xs) n zero at before = let same : x ≡ n = cc in rw (subst (λ (m : ℕ). nat_eq x m ≡ true) same (itself x)) refl
first_at (x ∷ xs) n (suc i) at before = go (nat_eq x n) refl (first_at xs n i at (λ j less there. before (suc j) (omega (arith, less)) there))
  where
    go : (b : Bool) → nat_eq x n ≡ b → first_place xs n ≡ Some i → cond b (Some 0) (option_map suc (first_place xs n)) ≡ Some (suc i)
    go true e later = absurd (before zero (omega arith) (ap (λ m. Some m) (same_number x n e)))
    go false e later = rw later refl

-- and nowhere if it stands nowhere
pub first_none : (xs : List ℕ) (n : ℕ) → ((j : ℕ) → slice_get xs j ≡ Some n → ⊥) → first_place xs n ≡ None
first_none [] n nowhere = refl
first_none (x ∷ xs) n nowhere = go (nat_eq x n) refl (first_none xs n (λ j there. nowhere (suc j) there))
  where
    go : (b : Bool) → nat_eq x n ≡ b → first_place xs n ≡ None → cond b (Some 0) (option_map suc (first_place xs n)) ≡ None
    go true e later = absurd (nowhere zero (ap (λ m. Some m) (same_number x n e)))
    go false e later = rw later refl

-- a number that is noted at one place alone is first there
pub by_first : (old : ℕ → Option ℕ) (xs : List ℕ) → AreNoted old xs → AreNoted (first_place xs) xs
by_first old xs noted i n at =
    first_at xs n i at (λ j less there. let same : j ≡ i = one_of j i (sym (noted j n there) ∙ noted i n at) in let f : ⊥ = omega (arith, less, same) in f)

-- what stands at two places of a list whose members are first where they stand are two numbers
pub apart : (xs : List ℕ) → AreNoted (first_place xs) xs → (i j n m : ℕ) → slice_get xs i ≡ Some n → slice_get xs j ≡ Some m → j < i → nat_eq n m ≡ false
apart xs noted i j n m at there less = go (nat_eq n m) refl
  where
    go : (b : Bool) → nat_eq n m ≡ b → b ≡ false
    go false e = refl
    go true e =
        let same : i ≡ j = one_of i j (sym (noted i n at) ∙ ap (first_place xs) (same_number n m e) ∙ noted j m there) in
        absurd (omega (arith, less, same))

-- Few members are found at their first places, more where they are noted.
pub few_noted : (xs : List ℕ) (places : Places) → nat_lt 8 (length xs) ≡ false → AreNoted (first_place xs) xs → AreNoted (place_in xs places) xs
few_noted xs places few noted i n at = rw few (noted i n at)

pub many_noted : (xs : List ℕ) (places : Places) → nat_lt 8 (length xs) ≡ true → AreNoted (place_of places) xs → AreNoted (place_in xs places) xs
many_noted xs places many noted i n at = rw many (noted i n at)

pub noted_of_many : (xs : List ℕ) (places : Places) → nat_lt 8 (length xs) ≡ true → AreNoted (place_in xs places) xs → AreNoted (place_of places) xs
noted_of_many xs places many noted i n at = subst (λ (b : Bool). cond b (place_of places n) (first_place xs n) ≡ Some i) many (noted i n at)

-- more members than a few are noted still once a number is that is no member
pub still_noted : (xs : List ℕ) (n : ℕ) (old new : Places) → nat_lt 8 (length xs) ≡ true → AreNoted (place_in xs old) xs → holds xs n ≡ false
    → ((k i : ℕ) → nat_eq n k ≡ false → place_of old k ≡ Some i → place_of new k ≡ Some i) → AreNoted (place_in xs new) xs
still_noted xs n old new many noted none others = many_noted xs new many (noted_still (place_of old) xs (noted_of_many xs old many noted) (place_of new) n none others)

-- however members are found, each is first where it stands
pub first_of : (xs : List ℕ) (places : Places) → AreNoted (place_in xs places) xs → AreNoted (first_place xs) xs
first_of xs places noted = by_first (place_in xs places) xs noted

-- one more that is no member is first behind them
pub first_more : (xs : List ℕ) (n : ℕ) → AreNoted (first_place xs) xs → holds xs n ≡ false → AreNoted (first_place (xs ++ n ∷ [])) (xs ++ n ∷ [])
first_more xs n noted none = by_first new (xs ++ n ∷ []) (noted_more (first_place xs) xs noted new n none others (rw (itself n) refl))
  where
    new : ℕ → Option ℕ
    new k = cond (nat_eq n k) (Some (length xs)) (first_place xs k)

    others : (k i : ℕ) → nat_eq n k ≡ false → first_place xs k ≡ Some i → new k ≡ Some i
    others k i other is = rw other is

-- What is noted of a list as far as a place is so one place further once its number is noted there.
module _ (xs : List ℕ) (noted : AreNoted (first_place xs) xs) (old new : ℕ → Option ℕ) (place number : ℕ) (at : slice_get xs place ≡ Some number)
    (so_far : (i n : ℕ) → i < place → slice_get xs i ≡ Some n → old n ≡ Some i) where
  pub noted_further : new number ≡ Some place → ((k i : ℕ) → nat_eq number k ≡ false → old k ≡ Some i → new k ≡ Some i)
      → (i n : ℕ) → i < place + 1 → slice_get xs i ≡ Some n → new n ≡ Some i
  noted_further here others i n less there = go (nat_eq i place) refl
    where
      go : (b : Bool) → nat_eq i place ≡ b → new n ≡ Some i
      go true e =
          let same = same_number i place e in
          let number_is : number ≡ n = one_of number n (sym at ∙ ap (slice_get xs) (sym same) ∙ there) in
          ap new (sym number_is) ∙ here ∙ ap (λ m. Some m) (sym same)
      go false e =
          let before : i < place = grind (arith, nat_tests, less, e) in
          others n i (apart xs noted place i number n at there before) (so_far i n before there)

-- what is left once a member is taken out, with the last one in its place, are first where they stand
pub left_apart : (old : ℕ → Option ℕ) (xs : List ℕ) → AreNoted old xs → (left : List ℕ) (n place : ℕ) → slice_get xs place ≡ Some n → IsWithout n place xs left → AreNoted (first_place left) left
left_apart old xs noted left n place at without = go (slice_get left place) refl
  where
    go : (o : Option ℕ) → slice_get left place ≡ o → AreNoted (first_place left) left
    go None last = by_first old left (noted_without old xs noted left n place at without last)
    go (Some moved) there = by_first new left (noted_moved old xs noted left n place at without moved there new others (rw (itself moved) refl))
      where
        new : ℕ → Option ℕ
        new k = cond (nat_eq moved k) (Some place) (old k)

        others : (k i : ℕ) → nat_eq moved k ≡ false → old k ≡ Some i → new k ≡ Some i
        others k i other is = rw other is
