-- Lists from a place on.
use Rattle.std.proofs.Common.{◌≡◌, ℕ, zero, suc, ◌+◌, ◌<◌, ◌≤◌, Bool, true, false, cond, List, [], ◌∷◌, ◌++◌, Option, Some, None, length, get_or, drop, map, refl, sym, ap, ◌∙◌, arith, add-one, append_assoc}
use Rattle.std.proofs.Math.Seq.{drop-cons}
use Rattle.std.specs.List.{filter, flat_map}
use Rattle.rx_elem.specs.Trees.{Node, forest, height, height_in}

-- what is left begins with the element at the place
pub front : {A : Type 0} (xs : List A) (k : ℕ) (x : A) → k < length xs → x ≡ get_or xs k x → drop k xs ≡ x ∷ drop (k + 1) xs
front xs k x h e = rw add-one (drop-cons xs k x h ∙ ap (λ a. a ∷ drop (suc k) xs) (sym e))

-- behind the end nothing is left
pub drop-end : {A : Type 0} (xs : List A) (k : ℕ) → length xs ≤ k → drop k xs ≡ []
drop-end [] zero h = refl
drop-end [] (suc k) h = refl
drop-end (x ∷ xs) zero h = absurd (omega arith)
drop-end (x ∷ xs) (suc k) h = drop-end xs k (omega arith)

-- a node of a list is no higher than the list
pub height-get : (ns : List (Option Node)) (k : ℕ) (o : Option Node) (n : Node) → k < length ns → o ≡ get_or ns k o → o ≡ Some n → height n ≤ height_in (forest ns)
height-get [] k o n h e f = absurd (omega arith)
height-get (None ∷ ns) zero o n h e f = absurd (cc)
height-get (Some m ∷ ns) zero o n h e f = let g : m ≡ n = cc in omega (arith, ap height g)
height-get (None ∷ ns) (suc k) o n h e f = height-get ns k o n (omega arith) e f
height-get (Some m ∷ ns) (suc k) o n h e f = omega (arith, height-get ns k o n (omega arith) e f)

-- what one element more gives
pub flat-more : {X Y : Type 0} (f : X → List Y) (xs : List X) (k : ℕ) (x : X) (before after : List Y) → k < length xs → x ≡ get_or xs k x → after ≡ before ++ f x
    → after ++ flat_map f (drop (k + 1) xs) ≡ before ++ flat_map f (drop k xs)
flat-more f xs k x before after h e g =
    ap (λ ys. ys ++ flat_map f (drop (k + 1) xs)) g
    ∙ append_assoc before (f x) (flat_map f (drop (k + 1) xs))
    ∙ ap (λ zs. before ++ flat_map f zs) (sym (front xs k x h e))

-- the same through handles
pub flat-more-through : {X Y Z : Type 0} (g : X → Y) (f : Y → List Z) (xs : List X) (k : ℕ) (x : X) (before after : List Z) → k < length xs → x ≡ get_or xs k x → after ≡ before ++ f (g x)
    → after ++ flat_map f (map g (drop (k + 1) xs)) ≡ before ++ flat_map f (map g (drop k xs))
flat-more-through g f xs k x before after h e i =
    ap (λ ys. ys ++ flat_map f (map g (drop (k + 1) xs))) i
    ∙ append_assoc before (f (g x)) (flat_map f (map g (drop (k + 1) xs)))
    ∙ ap (λ zs. before ++ flat_map f (map g zs)) (sym (front xs k x h e))

-- what those that pass a test give, one each
pub flat_map-filter : {X Y : Type 0} (test : X → Bool) (f : X → Y) (xs : List X) → flat_map (λ x. cond (test x) (f x ∷ []) []) xs ≡ map f (filter test xs)
flat_map-filter test f [] = refl
flat_map-filter test f (x ∷ xs) = go (test x) (flat_map-filter test f xs)
  where
    go : (b : Bool) → flat_map (λ x. cond (test x) (f x ∷ []) []) xs ≡ map f (filter test xs) → cond b (f x ∷ []) [] ++ flat_map (λ x. cond (test x) (f x ∷ []) []) xs ≡ map f (cond b (x ∷ filter test xs) (filter test xs))
    go true e = ap (λ ys. f x ∷ ys) e
    go false e = e
