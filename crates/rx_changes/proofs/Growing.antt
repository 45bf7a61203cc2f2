-- A log that grows item by item.
use Rattle.std.proofs.Common.{◌≡◌, ℕ, zero, suc, ◌+◌, ◌<◌, ◌≤◌, List, [], ◌∷◌, ◌++◌, length, get_or, take, refl, arith, ap, sym, ◌∙◌}
use Rattle.std.proofs.lemmas.List.{take_more, take_all, append_assoc, append-nil}

module _ {A B : Type 0} (lines : List A → List B) where
  -- the lines of one item more
  pub grown : ((xs ys : List A) → lines (xs ++ ys) ≡ lines xs ++ lines ys)
      → (xs : List A) (k : ℕ) (x : A) (first before after : List B) → k < length xs → x ≡ get_or xs k x
      → before ≡ first ++ lines (take k xs) → after ≡ before ++ lines (x ∷ []) → after ≡ first ++ lines (take (k + 1) xs)
  grown both xs k x first before after h e so_far more =
      more
      ∙ ap (λ ls. ls ++ lines (x ∷ [])) so_far
      ∙ append_assoc first (lines (take k xs)) (lines (x ∷ []))
      ∙ ap (λ ls. first ++ ls) (sym (both (take k xs) (x ∷ [])) ∙ ap lines (ap (λ y. take k xs ++ y ∷ []) e ∙ sym (take_more xs k x h)))

  -- the lines of all items
  pub full : (xs : List A) (k : ℕ) (first after : List B) → length xs ≤ k → after ≡ first ++ lines (take k xs) → after ≡ first ++ lines xs
  full xs k first after h so_far = so_far ∙ ap (λ ys. first ++ lines ys) (take_all k xs h)

-- what is read within a list is what stands there
pub got : {A : Type 0} (xs : List A) (k : ℕ) (d : A) → k < length xs → get_or xs k d ≡ get_or xs k (get_or xs k d)
got [] k d h = absurd (omega arith)
got (x ∷ xs) zero d h = refl
got (x ∷ xs) (suc k) d h = got xs k d (omega arith)

-- nothing more
pub none_more : {B : Type 0} (before after more : List B) → after ≡ before → more ≡ [] → after ≡ before ++ more
none_more before after more e f = e ∙ sym (append-nil before) ∙ ap (λ m. before ++ m) (sym f)

-- more by two steps
pub two_more : {B : Type 0} (before between after first second both : List B) → between ≡ before ++ first → after ≡ between ++ second → both ≡ first ++ second
    → after ≡ before ++ both
two_more before between after first second both e f g =
    f ∙ ap (λ ls. ls ++ second) e ∙ append_assoc before first second ∙ ap (λ ls. before ++ ls) (sym g)
