-- Bytes compared one by one, from a place on.
use Rattle.std.proofs.Common.{◌≡◌, ℕ, zero, suc, ◌+◌, ◌<◌, ◌≤◌, Bool, true, false, ◌&&◌, List, [], ◌∷◌, length, get_or, drop, refl, sym, ap, ◌∙◌, arith, add-one}
use Rattle.std.proofs.Math.Seq.{drop-cons}
use Rattle.std.proofs.lemmas.Bool.Decides.{nat_tests}
use Rattle.std.proofs.lemmas.List.{get_or_default}
use Rattle.std.specs.Prelude.{nat_eq}
use Rattle.std.specs.Cmp.Lexicographic.{pointwise}

-- what is left begins with the byte at the place
front : (xs : List ℕ) (k x : ℕ) → k < length xs → x ≡ get_or xs k x → drop k xs ≡ x ∷ drop (k + 1) xs
front xs k x h e = rw add-one (drop-cons xs k x h ∙ ap (λ a. a ∷ drop (suc k) xs) (sym e))

-- behind the end nothing is left
drop-end : (xs : List ℕ) (k : ℕ) → length xs ≤ k → drop k xs ≡ []
drop-end [] zero h = refl
drop-end [] (suc k) h = refl
drop-end (x ∷ xs) zero h = absurd (omega arith)
drop-end (x ∷ xs) (suc k) h = drop-end xs k (omega arith)

-- texts of two lengths aren't the same
pub unequal : (xs ys : List ℕ) → (length xs ≡ length ys → ⊥) → false ≡ pointwise nat_eq xs ys
unequal [] [] h = absurd (h refl)
unequal [] (y ∷ ys) h = refl
unequal (x ∷ xs) [] h = refl
unequal (x ∷ xs) (y ∷ ys) h = go (nat_eq x y) (unequal xs ys (λ e. h (ap suc e)))
  where
    go : (b : Bool) → false ≡ pointwise nat_eq xs ys → false ≡ (b && pointwise nat_eq xs ys)
    go true e = e
    go false e = refl

-- one pair of bytes more
pub one_more : (xs ys : List ℕ) (k : ℕ) → k < length xs → k < length ys
    → pointwise nat_eq (drop k xs) (drop k ys) ≡ (nat_eq (get_or xs k 0) (get_or ys k 0) && pointwise nat_eq (drop (k + 1) xs) (drop (k + 1) ys))
one_more xs ys k lx ly =
    let x = get_or xs k 0 in
    let y = get_or ys k 0 in
    ap (λ zs. pointwise nat_eq zs (drop k ys)) (front xs k x lx (get_or_default xs k 0 x lx))
    ∙ ap (pointwise nat_eq (x ∷ drop (k + 1) xs)) (front ys k y ly (get_or_default ys k 0 y ly))

-- an equal pair changes nothing
pub and-true : (b c d : Bool) → b ≡ true → c ≡ (b && d) → c ≡ d
and-true b c d e f = f ∙ ap (λ x. x && d) e

-- an unequal pair is enough
pub and-false : (b c d : Bool) → b ≡ false → c ≡ (b && d) → c ≡ false
and-false b c d e f = f ∙ ap (λ x. x && d) e

-- numbers that differ aren't equal by the test
pub other_byte : (x y : ℕ) → (x ≡ y → ⊥) → nat_eq x y ≡ false
other_byte x y h = grind (arith, nat_tests, h)

pub same_byte : (x y : ℕ) → x ≡ y → nat_eq x y ≡ true
same_byte x y h = grind (arith, nat_tests, h)

-- nothing is left at the end
pub at_end : (xs ys : List ℕ) (k : ℕ) → length xs ≤ k → length xs ≡ length ys → pointwise nat_eq (drop k xs) (drop k ys) ≡ true
at_end xs ys k h e = rw (drop-end xs k h, drop-end ys k (omega arith)) refl
