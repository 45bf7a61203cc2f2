-- Lists compared one by one, and sums, from a place on.
use Rattle.std.proofs.Common.{◌≡◌, ℕ, zero, suc, ◌+◌, ◌<◌, ◌≤◌, Bool, true, false, ◌&&◌, List, [], ◌∷◌, length, get_or, drop, refl, sym, ap, ◌∙◌, arith, add-one}
use Rattle.std.proofs.Math.Seq.{drop-cons}
use Rattle.std.specs.Cmp.Lexicographic.{pointwise}
use Rattle.rx_elem.specs.Elements.{Element, gathered, same_element, same_elements, depth, depth_in}
use Rattle.rx_elem.specs.ElementSize.{size, size_in}

-- what is left begins with the element at the place
pub front : {A : Type 0} (xs : List A) (k : ℕ) (x : A) → k < length xs → x ≡ get_or xs k x → drop k xs ≡ x ∷ drop (k + 1) xs
front xs k x h e = rw add-one (drop-cons xs k x h ∙ ap (λ a. a ∷ drop (suc k) xs) (sym e))

-- behind the end nothing is left
pub drop-end : {A : Type 0} (xs : List A) (k : ℕ) → length xs ≤ k → drop k xs ≡ []
drop-end [] zero h = refl
drop-end [] (suc k) h = refl
drop-end (x ∷ xs) zero h = absurd (omega arith)
drop-end (x ∷ xs) (suc k) h = drop-end xs k (omega arith)

-- lists of two lengths aren't equal
pub pointwise-unequal : {A : Type 0} (same : A → A → Bool) (xs ys : List A) → (length xs ≡ length ys → ⊥) → false ≡ pointwise same xs ys
pointwise-unequal same [] [] h = absurd (h refl)
pointwise-unequal same [] (y ∷ ys) h = refl
pointwise-unequal same (x ∷ xs) [] h = refl
pointwise-unequal same (x ∷ xs) (y ∷ ys) h = go (same x y) (pointwise-unequal same xs ys (λ e. h (ap suc e)))
  where
    go : (b : Bool) → false ≡ pointwise same xs ys → false ≡ (b && pointwise same xs ys)
    go true e = e
    go false e = refl

pub same_elements-unequal : (xs ys : List Element) → (length xs ≡ length ys → ⊥) → false ≡ same_elements (gathered xs) (gathered ys)
same_elements-unequal [] [] h = absurd (h refl)
same_elements-unequal [] (y ∷ ys) h = refl
same_elements-unequal (x ∷ xs) [] h = refl
same_elements-unequal (x ∷ xs) (y ∷ ys) h = go (same_element x y) (same_elements-unequal xs ys (λ e. h (ap suc e)))
  where
    go : (b : Bool) → false ≡ same_elements (gathered xs) (gathered ys) → false ≡ (b && same_elements (gathered xs) (gathered ys))
    go true e = e
    go false e = refl

-- one pair more
pub pointwise-more : {A : Type 0} (same : A → A → Bool) (xs ys : List A) (k : ℕ) (x y : A) → k < length xs → k < length ys → x ≡ get_or xs k x → y ≡ get_or ys k y
    → pointwise same (drop k xs) (drop k ys) ≡ (same x y && pointwise same (drop (k + 1) xs) (drop (k + 1) ys))
pointwise-more same xs ys k x y lx ly ex ey =
    ap (λ zs. pointwise same zs (drop k ys)) (front xs k x lx ex) ∙ ap (pointwise same (x ∷ drop (k + 1) xs)) (front ys k y ly ey)

pub same_elements-more : (xs ys : List Element) (k : ℕ) (x y : Element) → k < length xs → k < length ys → x ≡ get_or xs k x → y ≡ get_or ys k y
    → same_elements (gathered (drop k xs)) (gathered (drop k ys)) ≡ (same_element x y && same_elements (gathered (drop (k + 1) xs)) (gathered (drop (k + 1) ys)))
same_elements-more xs ys k x y lx ly ex ey =
    ap (λ zs. same_elements (gathered zs) (gathered (drop k ys))) (front xs k x lx ex) ∙ ap (λ zs. same_elements (gathered (x ∷ drop (k + 1) xs)) (gathered zs)) (front ys k y ly ey)

-- an equal pair changes nothing
pub and-true : (b c d : Bool) → b ≡ true → c ≡ (b && d) → c ≡ d
and-true b c d e f = f ∙ ap (λ x. x && d) e

-- an unequal pair is enough
pub and-false : (b c d : Bool) → b ≡ false → c ≡ (b && d) → c ≡ false
and-false b c d e f = f ∙ ap (λ x. x && d) e

-- nothing is left at the end
pub pointwise-end : {A : Type 0} (same : A → A → Bool) (xs ys : List A) (k : ℕ) → length xs ≤ k → length xs ≡ length ys → pointwise same (drop k xs) (drop k ys) ≡ true
pointwise-end same xs ys k h e = rw (drop-end xs k h, drop-end ys k (omega arith)) refl

pub same_elements-end : (xs ys : List Element) (k : ℕ) → length xs ≤ k → length xs ≡ length ys → same_elements (gathered (drop k xs)) (gathered (drop k ys)) ≡ true
same_elements-end xs ys k h e = rw (drop-end xs k h, drop-end ys k (omega arith)) refl

-- an element of a list is no deeper than the list
pub depth-get : (xs : List Element) (k : ℕ) (x : Element) → k < length xs → x ≡ get_or xs k x → depth x ≤ depth_in (gathered xs)
depth-get [] k x h e = absurd (omega arith)
depth-get (y ∷ xs) zero x h e = omega (arith, ap depth e)
depth-get (y ∷ xs) (suc k) x h e = omega (arith, depth-get xs k x (omega arith) e)

-- the whole is no deeper than a fact says
pub depth-is : (e f : Element) → e ≡ f → depth e ≡ depth f
depth-is e f = ap depth

-- one more count
pub size_in-more : (xs : List Element) (k : ℕ) (x : Element) → k < length xs → x ≡ get_or xs k x → size_in (gathered (drop k xs)) ≡ size x + size_in (gathered (drop (k + 1) xs))
size_in-more xs k x h e = ap (λ zs. size_in (gathered zs)) (front xs k x h e)

pub size_in-end : (xs : List Element) (k : ℕ) → length xs ≤ k → size_in (gathered (drop k xs)) ≡ 0
size_in-end xs k h = ap (λ zs. size_in (gathered zs)) (drop-end xs k h)
