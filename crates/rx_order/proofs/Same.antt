-- Lists that agree place by place.
use Rattle.std.proofs.Common.{◌≡◌, ◌<◌, ◌≤◌, Bool, true, false, not, List, [], ◌∷◌, refl, sym, ap, ◌∙◌, arith, get_or, take, length}
use Rattle.std.specs.Prelude.{ℕ, zero, suc}
use mathlib.Core.Bool.{beq}

-- two lists that agree so far agree in one place more
pub take-same : {A : Type 0} (xs ys : List A) (i : ℕ) (d e : A) → i < length xs → i < length ys → take i xs ≡ take i ys → get_or xs i d ≡ get_or ys i e → take (suc i) xs ≡ take (suc i) ys
take-same [] ys i d e h k p q = absurd (omega (arith, h))
take-same (x ∷ xs) [] i d e h k p q = absurd (omega (arith, k))
take-same (x ∷ xs) (y ∷ ys) zero d e h k p q = cc
take-same (x ∷ xs) (y ∷ ys) (suc i) d e h k p q =
    let first : x ≡ y = cc in
    let rest : take i xs ≡ take i ys = cc in
    let more = take-same xs ys i d e (omega (arith, h)) (omega (arith, k)) rest q in cc

take-all : {A : Type 0} (xs : List A) (n : ℕ) → length xs ≤ n → take n xs ≡ xs
take-all [] zero h = refl
take-all [] (suc n) h = refl
take-all (x ∷ xs) zero h = absurd (omega (arith, h))
take-all (x ∷ xs) (suc n) h = ap (λ l. x ∷ l) (take-all xs n (omega (arith, h)))

-- two lists of one length that agree in all their places
pub all-same : {A : Type 0} (xs ys : List A) (n : ℕ) → length xs ≤ n → length ys ≤ n → take n xs ≡ take n ys → xs ≡ ys
all-same xs ys n h k p = sym (take-all xs n h) ∙ (p ∙ take-all ys n k)

pub beq-same : (x y : Bool) → not (beq x y) ≡ false → x ≡ y
beq-same true true h = refl
beq-same true false h = cc
beq-same false true h = cc
beq-same false false h = refl
