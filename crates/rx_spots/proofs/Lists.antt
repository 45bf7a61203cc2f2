-- Lists of places from a place on.
use Rattle.std.proofs.Common.{◌≡◌, ℕ, true, nat_eq, zero, suc, ◌+◌, ◌<◌, ◌≤◌, List, [], ◌∷◌, Option, Some, None, length, get_or, drop, refl, sym, ap, ◌∙◌, arith, add-one}
use Rattle.std.proofs.Math.Seq.{drop-cons}
use Rattle.std.proofs.lemmas.Bool.Decides.{nat_tests}
use Rattle.rx_elem.specs.Trees.{Node, forest, height, height_in}

-- what is left begins with the element at the place
pub front : {A : Type 0} (xs : List A) (k : ℕ) (x : A) → k < length xs → x ≡ get_or xs k x → drop k xs ≡ x ∷ drop (k + 1) xs
front xs k x h e = rw add-one (drop-cons xs k x h ∙ ap (λ a. a ∷ drop (suc k) xs) (sym e))

-- behind the end nothing is left
pub drop-end : {A : Type 0} (xs : List A) (k : ℕ) → length xs ≤ k → drop k xs ≡ []
drop-end [] zero h = refl
drop-end [] (suc k) h = refl
drop-end (x ∷ xs) zero h = absurd (omega arith)
drop-end (x ∷ xs) (suc k) h = drop-end xs k (omega arith)

-- a node of a list is no higher than the list
pub height-get : (ns : List (Option Node)) (k : ℕ) (o : Option Node) (n : Node) → k < length ns → o ≡ get_or ns k o → o ≡ Some n → height n ≤ height_in (forest ns)
height-get [] k o n h e f = absurd (omega arith)
height-get (None ∷ ns) zero o n h e f = absurd (cc)
height-get (Some m ∷ ns) zero o n h e f = let g : m ≡ n = cc in omega (arith, ap height g)
height-get (None ∷ ns) (suc k) o n h e f = height-get ns k o n (omega arith) e f
height-get (Some m ∷ ns) (suc k) o n h e f = omega (arith, height-get ns k o n (omega arith) e f)

-- what is tested to be one number is one
pub same_number : (a b : ℕ) → nat_eq a b ≡ true → a ≡ b
same_number a b e = grind (arith, nat_tests)
