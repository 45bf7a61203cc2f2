-- A list of places, and the forest of them.
use Rattle.std.proofs.Common.{◌≡◌, ℕ, zero, suc, ◌<◌, ◌≤◌, List, [], ◌∷◌, length, get_or, Option, Some, None, refl, ap, arith}
use Rattle.rx_elem.specs.Trees.{Node, height, height_in, places, forest, elements_in}

-- the places of a forest are those that it was made of
pub places-forest : (ns : List (Option Node)) → ns ≡ places (forest ns)
places-forest [] = refl
places-forest (None ∷ ns) = ap (λ xs. None ∷ xs) (places-forest ns)
places-forest (Some n ∷ ns) = ap (λ xs. Some n ∷ xs) (places-forest ns)

-- each place has an element
pub length-elements_in : (ns : List (Option Node)) → length (elements_in (forest ns)) ≡ length ns
length-elements_in [] = refl
length-elements_in (None ∷ ns) = ap suc (length-elements_in ns)
length-elements_in (Some n ∷ ns) = ap suc (length-elements_in ns)

-- a node of a list is no higher than the list
pub height-get : (ns : List (Option Node)) (k : ℕ) (n : Node) (d : Option Node) → k < length ns → Some n ≡ get_or ns k d → height n ≤ height_in (forest ns)
height-get [] k n d h e = absurd (omega arith)
height-get (None ∷ ns) zero n d h e = absurd (cc e)
height-get (Some m ∷ ns) zero n d h e = let same : n ≡ m = cc in omega (arith, ap height same)
height-get (None ∷ ns) (suc k) n d h e = height-get ns k n d (omega arith) e
height-get (Some m ∷ ns) (suc k) n d h e = omega (arith, height-get ns k n d (omega arith) e)
