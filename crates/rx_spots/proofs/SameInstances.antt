-- Trees with the same instances, part by part.
use Rattle.std.proofs.Common.{◌≡◌, ℕ, zero, suc, ◌+◌, ◌<◌, ◌≤◌, Bool, true, false, not, cond, nat_eq, List, [], ◌∷◌, ◌++◌, Option, Some, None, length, get_or, drop, option_map, refl, sym, ap, ◌∙◌, append_assoc, arith, add-one}
use Rattle.std.specs.List.{cons_option}
use Rattle.std.specs.Option.{option_eq}
use Rattle.std.proofs.lemmas.List.{map-append}
use Rattle.std.proofs.lemmas.List.Elements.{filter_map-append}
use Rattle.rx_elem.specs.Trees.{Forest, Mark, Node, children_of, fallback_of, forest, height, height_in, mark_of, of_boundary, of_catcher, of_host, of_instance, plain}
use Rattle.rx_elem.specs.Spots.{Around, Mounted, around_children, mounted_at, mounted_in, numbers_of, spots, spots_in}
use Rattle.rx_node.specs.Mounts.{mounts_within}
use Rattle.rx_spots.specs.Places.{HaveSame, HaveSameIn, mounting_at, own_number}
use Rattle.rx_spots.proofs.Lists.{same_number}
use Rattle.rx_spots.proofs.Mounting.{mounted-more, mounted-node, own_mounted}
use Rattle.rx_spots.proofs.Nothing.{nothing_mounted}

-- numbers that are not tested to differ are the same
pub same_numbers : (a b : Option ℕ) → not (option_eq nat_eq a b) ≡ false → a ≡ b
same_numbers None None e = refl
same_numbers None (Some m) e = absurd (let f : ⊥ = cc in f)
same_numbers (Some n) None e = absurd (let f : ⊥ = cc in f)
same_numbers (Some n) (Some m) e = go (nat_eq n m) refl e
  where
    go : (b : Bool) → nat_eq n m ≡ b → not b ≡ false → Some n ≡ Some m
    go true is f = ap Some (same_number n m is)
    go false is f = absurd (let g : ⊥ = cc in g)

-- ---- a node

-- the number of a node's own instance
own_numbers : (a : Around) (m : Mark) → numbers_of (own_mounted a m) ≡ cons_option (own_number m) []
own_numbers a (of_instance i) = go i.number
  where
    go : (o : Option ℕ)
        → numbers_of (cons_option (option_map (λ k. let y : Mounted = record { number = k; component = i.component; initials = i.initials; owner = a.owner; visible = a.visible } in y) o) []) ≡ cons_option o []
    go None = refl
    go (Some k) = refl
own_numbers a (of_host h) = refl
own_numbers a (of_boundary b) = refl
own_numbers a (of_catcher c) = refl
own_numbers a plain = refl

numbers-append : (xs ys : List Mounted) → numbers_of (xs ++ ys) ≡ numbers_of xs ++ numbers_of ys
numbers-append xs ys = map-append (λ (m : Mounted). m.number) xs ys

-- the numbers of a node and below, part by part
numbers-node : (a : Around) (n : Node)
    → numbers_of (mounted_at (spots a n))
    ≡ cons_option (own_number (mark_of n)) []
    ++ (numbers_of (mounted_at (spots_in (around_children a (mark_of n)) (children_of n))) ++ numbers_of (mounted_at (spots_in a (fallback_of n))))
numbers-node a n =
    let own = own_mounted a (mark_of n) in
    let inside = mounted_at (spots_in (around_children a (mark_of n)) (children_of n)) in
    let behind = mounted_at (spots_in a (fallback_of n)) in
    ap numbers_of (mounted-node a n) ∙ (numbers-append own (inside ++ behind) ∙ (λ i. own_numbers a (mark_of n) i ++ numbers-append inside behind i))

-- the numbers of the parts added one after another are all
pub numbers-parts : (a : Around) (n : Node) (before own inside all : List ℕ) → own ≡ before ++ cons_option (own_number (mark_of n)) []
    → inside ≡ own ++ numbers_of (mounted_at (spots_in (around_children a (mark_of n)) (children_of n))) → all ≡ inside ++ numbers_of (mounted_at (spots_in a (fallback_of n)))
    → all ≡ before ++ numbers_of (mounted_at (spots a n))
numbers-parts a n before own inside all e f g =
    let mine = cons_option (own_number (mark_of n)) [] in
    let below = numbers_of (mounted_at (spots_in (around_children a (mark_of n)) (children_of n))) in
    let behind = numbers_of (mounted_at (spots_in a (fallback_of n))) in
    g
    ∙ (ap (λ xs. xs ++ behind) (f ∙ ap (λ xs. xs ++ below) e)
    ∙ (append_assoc (before ++ mine) below behind ∙ (append_assoc before mine (below ++ behind) ∙ ap (λ xs. before ++ xs) (sym (numbers-node a n)))))

-- the numbers of one node more
pub numbers-more : (a : Around) (ns : List (Option Node)) (k : ℕ) (o : Option Node) (n : Node) (before after : List ℕ) → k < length ns → o ≡ get_or ns k o → o ≡ Some n
    → after ≡ before ++ numbers_of (mounted_at (spots a n))
    → after ++ numbers_of (mounted_at (spots_in a (forest (drop (k + 1) ns)))) ≡ before ++ numbers_of (mounted_at (spots_in a (forest (drop k ns))))
numbers-more a ns k o n before after h e f g =
    let here = mounted_at (spots a n) in
    let rest = mounted_at (spots_in a (forest (drop (k + 1) ns))) in
    ap (λ xs. xs ++ numbers_of rest) g
    ∙ (append_assoc before (numbers_of here) (numbers_of rest)
    ∙ ap (λ xs. before ++ xs) (sym (numbers-append here rest) ∙ ap numbers_of (mounted-more a ns k o n [] here h e f refl)))

-- two nodes have the same if their parts have
pub node_same : (old new : Node) → own_number (mark_of old) ≡ own_number (mark_of new) → HaveSameIn (children_of old) (children_of new)
    → HaveSameIn (fallback_of old) (fallback_of new) → HaveSame old new
node_same old new own inside behind a b =
    numbers-node a old
    ∙ ((λ i. cons_option (own i) [] ++ (inside (around_children a (mark_of old)) (around_children b (mark_of new)) i ++ behind a b i)) ∙ sym (numbers-node b new))

-- ---- a list

-- the instances of a list from a place on
abbrev from : Around → List (Option Node) → ℕ → List Mounted
from a ns k = mounted_at (spots_in a (forest (drop k ns)))

none_next : (ns : List (Option Node)) (k : ℕ) → mounting_at ns k ≡ None → (a : Around) → from a ns k ≡ from a ns (suc k)
none_next [] zero e a = refl
none_next [] (suc k) e a = refl
none_next (None ∷ ns) zero e a = refl
none_next (Some n ∷ ns) zero e a = go (mounts_within n) refl e
  where
    go : (b : Bool) → mounts_within n ≡ b → cond b (Some n) None ≡ None → from a (Some n ∷ ns) zero ≡ from a (Some n ∷ ns) (suc zero)
    go true is f = absurd (let g : ⊥ = cc in g)
    go false is f = filter_map-append mounted_in (spots a n) (spots_in a (forest ns)) ∙ ap (λ ms. ms ++ mounted_at (spots_in a (forest ns))) (nothing_mounted a n is)
none_next (None ∷ ns) (suc k) e a = none_next ns k e a
none_next (Some n ∷ ns) (suc k) e a = none_next ns k e a

-- a place where there are none is passed
pub none_passed : (ns : List (Option Node)) (k : ℕ) → mounting_at ns k ≡ None → (a : Around) → from a ns k ≡ from a ns (k + 1)
none_passed ns k e a = rw add-one (none_next ns k e a)

some_next : (ns : List (Option Node)) (k : ℕ) (n : Node) → mounting_at ns k ≡ Some n → (a : Around) → from a ns k ≡ mounted_at (spots a n) ++ from a ns (suc k)
some_next [] k n e a = absurd (let f : ⊥ = cc in f)
some_next (None ∷ ns) zero n e a = absurd (let f : ⊥ = cc in f)
some_next (Some m ∷ ns) zero n e a = go (mounts_within m) e
  where
    go : (b : Bool) → cond b (Some m) None ≡ Some n → from a (Some m ∷ ns) zero ≡ mounted_at (spots a n) ++ from a (Some m ∷ ns) (suc zero)
    go true f =
        let same : m ≡ n = cc in
        filter_map-append mounted_in (spots a m) (spots_in a (forest ns)) ∙ ap (λ x. mounted_at (spots a x) ++ mounted_at (spots_in a (forest ns))) same
    go false f = absurd (let g : ⊥ = cc in g)
some_next (None ∷ ns) (suc k) n e a = some_next ns k n e a
some_next (Some m ∷ ns) (suc k) n e a = some_next ns k n e a

-- the instances of the node at a place come first
pub some_first : (ns : List (Option Node)) (k : ℕ) (n : Node) → mounting_at ns k ≡ Some n → (a : Around) → from a ns k ≡ mounted_at (spots a n) ++ from a ns (k + 1)
some_first ns k n e a = rw add-one (some_next ns k n e a)

-- it is no higher than the list
pub mounting_height : (ns : List (Option Node)) (k : ℕ) (n : Node) → mounting_at ns k ≡ Some n → height n ≤ height_in (forest ns)
mounting_height [] k n e = absurd (let f : ⊥ = cc in f)
mounting_height (None ∷ ns) zero n e = absurd (let f : ⊥ = cc in f)
mounting_height (Some m ∷ ns) zero n e = go (mounts_within m) e
  where
    go : (b : Bool) → cond b (Some m) None ≡ Some n → height n ≤ height_in (forest (Some m ∷ ns))
    go true f = let same : m ≡ n = cc in omega (arith, ap height same)
    go false f = absurd (let g : ⊥ = cc in g)
mounting_height (None ∷ ns) (suc k) n e = mounting_height ns k n e
mounting_height (Some m ∷ ns) (suc k) n e = omega (arith, mounting_height ns k n e)

-- two lists that have the same from a place on have the same from the place before on, if there the nodes have, or there are none
pub none_more : (os ns : List (Option Node)) (k : ℕ) → mounting_at os k ≡ None → mounting_at ns k ≡ None → HaveSameIn (forest (drop (k + 1) os)) (forest (drop (k + 1) ns))
    → HaveSameIn (forest (drop k os)) (forest (drop k ns))
none_more os ns k e f rest a b = ap numbers_of (none_passed os k e a) ∙ (rest a b ∙ ap numbers_of (sym (none_passed ns k f b)))

pub some_more : (os ns : List (Option Node)) (k : ℕ) (o n : Node) → mounting_at os k ≡ Some o → mounting_at ns k ≡ Some n → HaveSame o n
    → HaveSameIn (forest (drop (k + 1) os)) (forest (drop (k + 1) ns)) → HaveSameIn (forest (drop k os)) (forest (drop k ns))
some_more os ns k o n e f same rest a b =
    ap numbers_of (some_first os k o e a)
    ∙ (numbers-append (mounted_at (spots a o)) (from a os (k + 1))
    ∙ ((λ i. same a b i ++ rest a b i)
    ∙ (sym (numbers-append (mounted_at (spots b n)) (from b ns (k + 1))) ∙ ap numbers_of (sym (some_first ns k n f b)))))

-- lists that are the same as two others have the same if these have
pub same_forests : (os ps ns ms : Forest) → os ≡ ps → ns ≡ ms → HaveSameIn os ns → HaveSameIn ps ms
same_forests os ps ns ms e f same a b = ap (λ xs. numbers_of (mounted_at (spots_in a xs))) (sym e) ∙ (same a b ∙ ap (λ xs. numbers_of (mounted_at (spots_in b xs))) f)
