-- The child at a place among those before it and those from it on.
use Rattle.std.proofs.Common.{◌≡◌, ℕ, suc, ◌+◌, ◌<◌, List, [], ◌∷◌, ◌++◌, length, get_or, take, drop, sym, ap, ◌∙◌, add-one}
use Rattle.std.proofs.Math.Seq.{drop-cons}
use Rattle.std.proofs.lemmas.List.{take_more}

-- what is left begins with the child at the place
pub front : {A : Type 0} (xs : List A) (k : ℕ) (x : A) → k < length xs → x ≡ get_or xs k x → drop k xs ≡ x ∷ drop (k + 1) xs
front xs k x h e = rw add-one (drop-cons xs k x h ∙ ap (λ a. a ∷ drop (suc k) xs) (sym e))

-- what lies up to and with a place ends with the child there
pub back : {A : Type 0} (xs : List A) (k : ℕ) (x : A) → k < length xs → x ≡ get_or xs k x → take (k + 1) xs ≡ take k xs ++ x ∷ []
back xs k x h e = take_more xs k x h ∙ ap (λ a. take k xs ++ a ∷ []) (sym e)
