-- Whether a number is among the members of a set, by the places where they stand.
use Rattle.std.proofs.Common.{◌≡◌, ℕ, zero, suc, Bool, true, false, ◌||◌, ◌&&◌, nat_eq, Option, Some, None, List, [], ◌∷◌, ◌++◌, slice_get, refl, sym, ap, ◌∙◌, subst, arith}
use Rattle.std.proofs.lemmas.Bool.Decides.{nat_tests}
use Rattle.std.proofs.lemmas.List.Folds.{list_any-append}
use Rattle.std.specs.List.{list_all}
use Rattle.std.specs.Option.{option_eq}
use Rattle.rx_set.specs.Sets.{holds}

-- numbers that are found equal are the same
pub same_number : (n m : ℕ) → nat_eq n m ≡ true → n ≡ m
same_number n m e = grind (arith, nat_tests)

pub itself : (n : ℕ) → nat_eq n n ≡ true
itself n = grind (arith, nat_tests)

pub other_way : (n m : ℕ) → nat_eq n m ≡ nat_eq m n
other_way n m = grind (arith, nat_tests)

pub left : (a b : Bool) → a ≡ true → (a || b) ≡ true
left true b is = refl
left false b is = cc

pub right : (a b : Bool) → b ≡ true → (a || b) ≡ true
right true b is = refl
right false b is = is

-- what stands at a place is a member
pub holds_at : (members : List ℕ) (i n : ℕ) → slice_get members i ≡ Some n → holds members n ≡ true
holds_at [] i n at = absurd (let f : ⊥ = cc in f)
holds_at (x ∷ xs) zero n at = let same : x ≡ n = cc in left (nat_eq n x) (holds xs n) (subst (λ (y : ℕ). nat_eq n y ≡ true) (sym same) (itself n))
holds_at (x ∷ xs) (suc i) n at = right (nat_eq n x) (holds xs n) (holds_at xs i n at)

-- each member stands at a place
pub record StandsAt (members : List ℕ) (n : ℕ) : Type 0 where
  pub place : ℕ
  pub at : slice_get members place ≡ Some n

pub stands : (members : List ℕ) (n : ℕ) → holds members n ≡ true → StandsAt members n
stands [] n is = absurd (let f : ⊥ = cc in f)
stands (x ∷ xs) n is = go (nat_eq n x) refl is (stands xs n)
  where
    go : (b : Bool) → nat_eq n x ≡ b → (b || holds xs n) ≡ true → (holds xs n ≡ true → StandsAt xs n) → StandsAt (x ∷ xs) n
    go true e is rest = record { place = 0; at = ap (λ y. Some y) (sym (same_number n x e)) }
    go false e is rest = let later = rest is in record { place = suc later.place; at = later.at }

-- what stands at no place is no member
pub is_none : (members : List ℕ) (n : ℕ) → ((i : ℕ) → slice_get members i ≡ Some n → ⊥) → holds members n ≡ false
is_none members n nowhere = go (holds members n) refl
  where
    go : (b : Bool) → holds members n ≡ b → b ≡ false
    go true e = let s = stands members n e in absurd (nowhere s.place s.at)
    go false e = refl

or_false : (a b : Bool) → (a || (b || false)) ≡ (a || b)
or_false true b = refl
or_false false true = refl
or_false false false = refl

-- a number is a member once one was put if it was one, or is the one
pub holds_more : (members : List ℕ) (number n : ℕ) → holds (members ++ number ∷ []) n ≡ (holds members n || nat_eq n number)
holds_more members number n = list_any-append (nat_eq n) members (number ∷ []) ∙ or_false (holds members n) (nat_eq n number)

-- nothing is new if it was there
pub holds_again : (members : List ℕ) (number n : ℕ) → holds members number ≡ true → holds members n ≡ (holds members n || nat_eq n number)
holds_again members number n is = go (nat_eq n number) refl (holds members n) refl
  where
    go : (b : Bool) → nat_eq n number ≡ b → (h : Bool) → holds members n ≡ h → h ≡ (h || b)
    go b e true f = refl
    go false e false f = refl
    go true e false f = sym f ∙ ap (holds members) (same_number n number e) ∙ is

-- a value that is found equal to some number is that number
pub only_some : (o : Option ℕ) (n : ℕ) → option_eq nat_eq o (Some n) ≡ true → o ≡ Some n
only_some None n is = absurd (let f : ⊥ = cc in f)
only_some (Some m) n is = ap (λ k. Some k) (same_number m n is)

-- and else it is not
pub not_some : (o : Option ℕ) (n : ℕ) → option_eq nat_eq o (Some n) ≡ false → o ≡ Some n → ⊥
not_some o n isnt is = go (sym (itself n) ∙ sym (ap (λ x. option_eq nat_eq x (Some n)) is) ∙ isnt)
  where
    go : true ≡ false → ⊥
    go f = let g : ⊥ = cc in g

-- if each member of a set is one of another, so is each number in it
pub within : (members others : List ℕ) → list_all (holds others) members ≡ true → (n : ℕ) → holds members n ≡ true → holds others n ≡ true
within [] others all n is = absurd (let f : ⊥ = cc in f)
within (x ∷ xs) others all n is = go (nat_eq n x) refl (holds others x) refl all is (within xs others)
  where
    go : (a : Bool) → nat_eq n x ≡ a → (b : Bool) → holds others x ≡ b → (b && list_all (holds others) xs) ≡ true → (a || holds xs n) ≡ true
        → (list_all (holds others) xs ≡ true → (n : ℕ) → holds xs n ≡ true → holds others n ≡ true) → holds others n ≡ true
    go a e false f all is rest = absurd (let g : ⊥ = cc in g)
    go true e true f all is rest = ap (holds others) (same_number n x e) ∙ f
    go false e true f all is rest = rest all n is
