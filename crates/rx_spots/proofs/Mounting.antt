-- The instances of a node and below, part by part.
use Rattle.std.proofs.Common.{◌≡◌, ℕ, ◌+◌, ◌<◌, List, [], ◌∷◌, ◌++◌, Option, Some, None, length, get_or, drop, refl, sym, ap, ◌∙◌, append_assoc, option_and_then}
use Rattle.std.specs.List.{cons_option}
use Rattle.std.proofs.lemmas.List.Elements.{filter_map-append}
use Rattle.rx_elem.specs.Trees.{Node, node, Mark, mark_of, children_of, fallback_of, forest, instance_in}
use Rattle.rx_elem.specs.Spots.{Around, Mounted, around_children, mounted_as, mounted_at, mounted_in, spots, spots_in}
use Rattle.rx_spots.proofs.Lists.{front}

-- the instance of a node with this mark, if it is one
abbrev pub own_mounted : Around → Mark → List Mounted
own_mounted a m = cons_option (option_and_then (mounted_as a) (instance_in m)) []

cons_option-append : (o : Option Mounted) (ms : List Mounted) → cons_option o ms ≡ cons_option o [] ++ ms
cons_option-append None ms = refl
cons_option-append (Some m) ms = refl

-- a node comes before what is below it, and a boundary's primary before its fallback
pub mounted-node : (a : Around) (n : Node)
    → mounted_at (spots a n) ≡ own_mounted a (mark_of n) ++ (mounted_at (spots_in (around_children a (mark_of n)) (children_of n)) ++ mounted_at (spots_in a (fallback_of n)))
mounted-node a (node e m ns fs) =
    cons_option-append _ (mounted_at (spots_in (around_children a m) ns ++ spots_in a fs))
    ∙ ap (λ xs. own_mounted a m ++ xs) (filter_map-append mounted_in (spots_in (around_children a m) ns) (spots_in a fs))

-- the parts added one after another are all
pub mounted-parts : (a : Around) (n : Node) (before own inside all : List Mounted) → own ≡ before ++ own_mounted a (mark_of n)
    → inside ≡ own ++ mounted_at (spots_in (around_children a (mark_of n)) (children_of n)) → all ≡ inside ++ mounted_at (spots_in a (fallback_of n))
    → all ≡ before ++ mounted_at (spots a n)
mounted-parts a n before own inside all e f g =
    g
    ∙ ap (λ xs. xs ++ mounted_at (spots_in a (fallback_of n))) (f ∙ ap (λ xs. xs ++ mounted_at (spots_in (around_children a (mark_of n)) (children_of n))) e)
    ∙ append_assoc (before ++ own_mounted a (mark_of n)) (mounted_at (spots_in (around_children a (mark_of n)) (children_of n))) (mounted_at (spots_in a (fallback_of n)))
    ∙ append_assoc before (own_mounted a (mark_of n)) _
    ∙ ap (λ xs. before ++ xs) (sym (mounted-node a n))

-- one node more
pub mounted-more : (a : Around) (ns : List (Option Node)) (k : ℕ) (o : Option Node) (n : Node) (before after : List Mounted) → k < length ns → o ≡ get_or ns k o → o ≡ Some n
    → after ≡ before ++ mounted_at (spots a n)
    → after ++ mounted_at (spots_in a (forest (drop (k + 1) ns))) ≡ before ++ mounted_at (spots_in a (forest (drop k ns)))
mounted-more a ns k o n before after h e f g =
    ap (λ xs. xs ++ mounted_at (spots_in a (forest (drop (k + 1) ns)))) g
    ∙ append_assoc before (mounted_at (spots a n)) (mounted_at (spots_in a (forest (drop (k + 1) ns))))
    ∙ ap (λ xs. before ++ xs) (sym (ap (λ xs. mounted_at (spots_in a (forest xs))) (front ns k o h e) ∙ ap (λ x. mounted_at (spots_in a (forest (x ∷ drop (k + 1) ns)))) f ∙ filter_map-append mounted_in (spots a n) (spots_in a (forest (drop (k + 1) ns)))))

-- a place with no node
pub mounted-vacant : (a : Around) (ns : List (Option Node)) (k : ℕ) (o : Option Node) → k < length ns → o ≡ get_or ns k o → o ≡ None
    → mounted_at (spots_in a (forest (drop (k + 1) ns))) ≡ mounted_at (spots_in a (forest (drop k ns)))
mounted-vacant a ns k o h e f = sym (ap (λ xs. mounted_at (spots_in a (forest xs))) (front ns k o h e) ∙ ap (λ x. mounted_at (spots_in a (forest (x ∷ drop (k + 1) ns)))) f)
