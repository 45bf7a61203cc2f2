-- A loop that changes the elements of a list in place, each as a relation says.
use Rattle.std.proofs.Common.{◌≡◌, ℕ, zero, suc, ◌+◌, ◌<◌, ◌≤◌, List, [], ◌∷◌, length, get_or, ◌∙◌, sym, subst, arith, add-one}
use Rattle.std.specs.List.{AllZip}
use Rattle.std.proofs.Math.ListN.{set}

-- the first elements have changed as the relation says, and the others are as they were
abbrev pub Stepped : {X : Type 0} → (X → X → Type 0) → ℕ → List X → List X → Type 0
Stepped R zero xs ys = ys ≡ xs
Stepped R (suc i) [] [] = Unit {0}
Stepped R (suc i) [] (y ∷ ys) = ⊥
Stepped R (suc i) (x ∷ xs) [] = ⊥
Stepped R (suc i) (x ∷ xs) (y ∷ ys) = R x y × Stepped R i xs ys

stepped-suc : {X : Type 0} (R : X → X → Type 0) (i : ℕ) (xs ys : List X) (x y : X) → i < length xs → Stepped R i xs ys → x ≡ get_or ys i x → R x y
    → Stepped R (suc i) xs (set ys i y)
stepped-suc R zero [] ys x y within s here r = absurd (omega arith)
stepped-suc R zero (a ∷ xs) [] x y within s here r = cc
stepped-suc R zero (a ∷ xs) (b ∷ ys) x y within s here r = let same : b ≡ a = cc in let rest : ys ≡ xs = cc in (subst (λ z. R z y) (here ∙ same) r, rest)
stepped-suc R (suc i) [] ys x y within s here r = absurd (omega arith)
stepped-suc R (suc i) (a ∷ xs) [] x y within s here r = absurd s
stepped-suc R (suc i) (a ∷ xs) (b ∷ ys) x y within s here r = (s.0, stepped-suc R i xs ys x y (omega arith) s.1 here r)

-- one element more
pub stepped-more : {X : Type 0} (R : X → X → Type 0) (i : ℕ) (xs ys : List X) (x y : X) → i < length xs → Stepped R i xs ys → x ≡ get_or ys i x → R x y
    → Stepped R (i + 1) xs (set ys i y)
stepped-more R i xs ys x y within s here r = rw add-one (stepped-suc R i xs ys x y within s here r)

-- all elements
pub stepped-all : {X : Type 0} (R : X → X → Type 0) (i : ℕ) (xs ys : List X) → length xs ≤ i → Stepped R i xs ys → AllZip R xs ys
stepped-all R zero [] ys long s = subst (λ l. AllZip R [] l) (sym s) tt
stepped-all R zero (a ∷ xs) ys long s = absurd (omega arith)
stepped-all R (suc i) [] [] long s = tt
stepped-all R (suc i) [] (b ∷ ys) long s = absurd s
stepped-all R (suc i) (a ∷ xs) [] long s = absurd s
stepped-all R (suc i) (a ∷ xs) (b ∷ ys) long s = (s.0, stepped-all R i xs ys (omega arith) s.1)
