-- Lists of what is kept, by their places.
use Rattle.std.proofs.Common.{◌≡◌, ◌∙◌, sym, ap, refl, ℕ, zero, suc, ◌<◌, List, [], ◌∷◌, map, length, get_or, subst, arith}
use Rattle.std.specs.Prelude.{slice_index_or, slice_set}
use Rattle.std.specs.List.{AllZip}
use Rattle.std.proofs.lemmas.List.{set-get_or}
use Rattle.rx_resources.specs.Kept.{Kept, opening}
use Rattle.rx_resources.specs.Store.{kept_at}

-- each element has changed by a function
pub all_mapped : {X : Type 0} (f : X → X) (xs ys : List X) → AllZip (λ x y. y ≡ f x) xs ys → ys ≡ map f xs
all_mapped f [] [] s = refl
all_mapped f [] (y ∷ ys) s = absurd s
all_mapped f (x ∷ xs) [] s = absurd s
all_mapped f (x ∷ xs) (y ∷ ys) s = let here = s.0 in let rest = all_mapped f xs ys s.1 in rw (here, rest) refl

-- within a list an element doesn't depend on what stands for one that is missing
pub any_default : {X : Type 0} (xs : List X) (i : ℕ) (d e : X) → i < length xs → get_or xs i d ≡ get_or xs i e
any_default [] i d e h = absurd (omega arith)
any_default (x ∷ xs) zero d e h = refl
any_default (x ∷ xs) (suc i) d e h = any_default xs i d e (omega (arith, h))

-- what was read at a place is what is kept there
pub read_is : (kept : List Kept) (r : ℕ) (k : Kept) → r < length kept → k ≡ get_or kept r k → k ≡ kept_at kept r
read_is kept r k h e = e ∙ any_default kept r k opening h

-- a place that was written with what stood there
pub same_written : (kept : List Kept) (r : ℕ) (k : Kept) → r < length kept → k ≡ kept_at kept r → slice_set kept r k ≡ kept
same_written kept r k h e = ap (λ (x : Kept). slice_set kept r x) e ∙ set-get_or kept r opening
