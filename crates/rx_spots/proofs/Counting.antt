-- Counts of nodes, part by part, and over the nodes in tree order.
use Rattle.std.proofs.Common.{◌≡◌, ℕ, ◌+◌, ◌<◌, ◌≤◌, Bool, true, false, not, ◌||◌, cond, List, ◌∷◌, ◌++◌, Option, Some, None, length, get_or, drop, refl, ap, ◌∙◌, arith, length-append}
use Rattle.std.specs.List.{filter}
use Rattle.std.proofs.lemmas.List.Elements.{filter-append}
use Rattle.rx_elem.specs.Trees.{Node, node, Forest, none, vacant, child, mark_of, children_of, fallback_of, forest, is_hidden}
use Rattle.rx_elem.specs.Spots.{Around, Spot, around_children, spots, spots_in, spot_mark}
use Rattle.rx_spots.proofs.Lists.{front, drop-end}
use Rattle.rx_spots.specs.Counts.{own_count, counted_from, counted_in}

-- a node counts itself and what is below it
pub counted_from-parts : (b : Bool) (n : Node) → counted_from b n ≡ own_count b (mark_of n) + counted_in b (children_of n) + counted_in b (fallback_of n)
counted_from-parts b (node e m ns fs) = refl

-- what counts if each node does
abbrev own_one : Bool → ℕ
own_one b = cond (b || not false) 1 0

-- each node is counted
one_each : (b : Bool) → own_one b ≡ 1
one_each true = refl
one_each false = refl

mutual
  pub length-spots : (a : Around) (n : Node) → length (spots a n) ≡ counted_from false n
  length-spots a (node e m ns fs) =
      omega (arith, one_each (is_hidden m), length-append (spots_in (around_children a m) ns) (spots_in a fs), length-spots_in (around_children a m) ns, length-spots_in a fs)

  length-spots_in : (a : Around) (ns : Forest) → length (spots_in a ns) ≡ counted_in false ns
  length-spots_in a none = refl
  length-spots_in a (vacant ns) = length-spots_in a ns
  length-spots_in a (child n ns) = omega (arith, length-append (spots a n) (spots_in a ns), length-spots a n, length-spots_in a ns)

-- a spot of a hidden boundary
abbrev hides_at : Spot → Bool
hides_at s = is_hidden (spot_mark s)

-- how many spots of hidden boundaries these are
abbrev hidden_among : List Spot → ℕ
hidden_among ss = length (filter hides_at ss)

hidden_among-append : (ss ts : List Spot) → hidden_among (ss ++ ts) ≡ hidden_among ss + hidden_among ts
hidden_among-append ss ts = ap length (filter-append hides_at ss ts) ∙ length-append (filter hides_at ss) (filter hides_at ts)

-- one spot more
hidden_among-cons : (s : Spot) (ss : List Spot) → hidden_among (s ∷ ss) ≡ cond (hides_at s || not true) 1 0 + hidden_among ss
hidden_among-cons s ss = elim (hides_at s) as (λ b. length (cond b (s ∷ filter hides_at ss) (filter hides_at ss)) ≡ cond (b || not true) 1 0 + hidden_among ss) [ true ↦ omega arith | false ↦ omega arith ]

mutual
  pub hidden_among-spots : (a : Around) (n : Node) → length (filter (λ s. is_hidden (spot_mark s)) (spots a n)) ≡ counted_from true n
  hidden_among-spots a (node e m ns fs) =
      omega (arith, hidden_among-cons (record { at = node e m ns fs; around = a }) (spots_in (around_children a m) ns ++ spots_in a fs), hidden_among-append (spots_in (around_children a m) ns) (spots_in a fs), hidden_among-spots_in (around_children a m) ns, hidden_among-spots_in a fs)

  hidden_among-spots_in : (a : Around) (ns : Forest) → length (filter (λ s. is_hidden (spot_mark s)) (spots_in a ns)) ≡ counted_in true ns
  hidden_among-spots_in a none = refl
  hidden_among-spots_in a (vacant ns) = hidden_among-spots_in a ns
  hidden_among-spots_in a (child n ns) = omega (arith, hidden_among-append (spots a n) (spots_in a ns), hidden_among-spots a n, hidden_among-spots_in a ns)

-- one node more
pub counted_in-more : (b : Bool) (ns : List (Option Node)) (k : ℕ) (o : Option Node) (n : Node) → k < length ns → o ≡ get_or ns k o → o ≡ Some n
    → counted_in b (forest (drop k ns)) ≡ counted_from b n + counted_in b (forest (drop (k + 1) ns))
counted_in-more b ns k o n h e f = ap (λ xs. counted_in b (forest xs)) (front ns k o h e) ∙ ap (λ x. counted_in b (forest (x ∷ drop (k + 1) ns))) f

-- a place with no node
pub counted_in-vacant : (b : Bool) (ns : List (Option Node)) (k : ℕ) (o : Option Node) → k < length ns → o ≡ get_or ns k o → o ≡ None
    → counted_in b (forest (drop k ns)) ≡ counted_in b (forest (drop (k + 1) ns))
counted_in-vacant b ns k o h e f = ap (λ xs. counted_in b (forest xs)) (front ns k o h e) ∙ ap (λ x. counted_in b (forest (x ∷ drop (k + 1) ns))) f

-- nothing is left at the end
pub counted_in-end : (b : Bool) (ns : List (Option Node)) (k : ℕ) → length ns ≤ k → counted_in b (forest (drop k ns)) ≡ 0
counted_in-end b ns k h = ap (λ xs. counted_in b (forest xs)) (drop-end ns k h)
