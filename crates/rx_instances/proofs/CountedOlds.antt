-- How much there is of a list of current fibers is how much there is of the nodes for which it stands.
use Rattle.std.proofs.Common.{◌≡◌, ℕ, suc, ◌+◌, Bool, true, false, not, ◌||◌, cond, List, [], ◌∷◌, ◌++◌, Option, Some, None, length, filter, refl, ap, ◌∙◌, arith, length-append, append-nil}
use Rattle.std.proofs.lemmas.List.Elements.{filter-append}
use Rattle.rx_elem.specs.Elements.{Element}
use Rattle.rx_elem.specs.Spots.{Around, Spot, around_children, at_root, hidden_count, node_count, spot_mark, spots, spots_in}
use Rattle.rx_elem.specs.Trees.{Forest, Mark, Node, child, is_hidden, node, none, vacant}
use Rattle.rx_lists.specs.Shapes.{Shape}
use Rattle.rx_fiber.specs.Fibers.{Fiber}
use Rattle.rx_fiber.specs.Reading.{AreFor, IsFor, IsTreeOf, alone, beside, gap, next, no_more, whole}
use Rattle.rx_spots.specs.Counts.{is_counted, own_count}
use Rattle.rx_instances.specs.CountedFibers.{counted_list, stage_count}
use Rattle.rx_instances.proofs.MountedOlds.{gone_spots}

-- how many of these spots are counted
abbrev among : Bool → List Spot → ℕ
among b ss = length (filter (λ s. is_counted b (spot_mark s)) ss)

among_append : (b : Bool) (ss ts : List Spot) → among b (ss ++ ts) ≡ among b ss + among b ts
among_append b ss ts =
    ap length (filter-append (λ s. is_counted b (spot_mark s)) ss ts) ∙ length-append (filter (λ s. is_counted b (spot_mark s)) ss) (filter (λ s. is_counted b (spot_mark s)) ts)

among_more : (b : Bool) (s : Spot) (ss : List Spot) → among b (s ∷ ss) ≡ own_count b (spot_mark s) + among b ss
among_more b s ss = go (is_counted b (spot_mark s)) (filter (λ s. is_counted b (spot_mark s)) ss)
  where
    go : (c : Bool) (rest : List Spot) → length (cond c (s ∷ rest) rest) ≡ cond c 1 0 + length rest
    go true rest = omega arith
    go false rest = omega arith

-- a node counts itself and what is below it, and then come those behind
among_node : (b : Bool) (a : Around) (e : Element) (m : Mark) (ns fs : Forest) (more : List Spot)
    → among b (spots a (node e m ns fs) ++ more) ≡ own_count b m + (among b (spots_in (around_children a m) ns) + (among b (spots_in a fs) + among b more))
among_node b a e m ns fs more =
    omega (
      arith,
      among_append b (spots a (node e m ns fs)) more,
      among_more b (record { at = node e m ns fs; around = a }) (spots_in (around_children a m) ns ++ spots_in a fs),
      among_append b (spots_in (around_children a m) ns) (spots_in a fs),
    )

mutual
  list_counted : (b : Bool) (a : Around) (n : ℕ) (ns : Forest) (s : Shape Fiber) → AreFor n ns s → counted_list b s ≡ among b (spots_in a ns)
  list_counted b a n _ _ no_more = refl
  list_counted b a n (vacant ns) s (gap are) = list_counted b a (suc n) ns s are
  list_counted b a n (child x ns) s (next {rest = rest} is are) = node_counted b a n x s rest ns is (list_counted b a (suc n) ns rest are)

  node_counted : (b : Bool) (a : Around) (n : ℕ) (x : Node) (s rest : Shape Fiber) (ns : Forest) → IsFor n x s rest → counted_list b rest ≡ among b (spots_in a ns)
      → counted_list b s ≡ among b (spots a x ++ spots_in a ns)
  node_counted b a n _ _ rest more (whole {v = v} {e = e} {m = m} {ns = ns} {ks = ks} is shown are) later =
      let own : stage_count b v.stage ≡ own_count b m = ap (stage_count b) is.stage in
      let inside = list_counted b (around_children a m) 0 ns ks are in
      omega (arith, own, inside, later, among_node b a e m ns none (spots_in a more))
  node_counted b a n _ _ rest more (alone {v = v} {e = e} {m = m} {ns = ns} {fs = fs} {ks = ks} is hidden gone are) later =
      let own : stage_count b v.stage ≡ own_count b m = ap (stage_count b) is.stage in
      let inside = list_counted b a 0 fs ks are in
      let nothing : among b (spots_in (around_children a m) ns) ≡ 0 = ap (among b) (gone_spots (around_children a m) ns gone) in
      omega (arith, own, inside, later, nothing, among_node b a e m ns fs (spots_in a more))
  node_counted b a n _ _ rest more (beside {v = v} {w = w} {e = e} {m = m} {ns = ns} {fs = fs} {ks = ks} {ws = ws} is hidden some are f d) later =
      let own : stage_count b v.stage ≡ own_count b m = ap (stage_count b) is.stage in
      let also : stage_count b w.stage ≡ 0 = ap (stage_count b) f in
      let inside = list_counted b (around_children a m) 0 ns ks are in
      let behind = list_counted b a 0 fs ws d in
      omega (arith, own, also, inside, behind, later, among_node b a e m ns fs (spots_in a more))

-- what counts if each node does
abbrev own_one : Bool → ℕ
own_one h = cond (h || not false) 1 0

one_each : (h : Bool) → own_one h ≡ 1
one_each true = refl
one_each false = refl

all_counted : (ss : List Spot) → among false ss ≡ length ss
all_counted [] = refl
all_counted (s ∷ ss) = omega (arith, among_more false s ss, all_counted ss, one_each (is_hidden (spot_mark s)))

hidden_counted : (ss : List Spot) → among true ss ≡ length (filter (λ s. is_hidden (spot_mark s)) ss)
hidden_counted [] = refl
hidden_counted (s ∷ ss) = go (is_hidden (spot_mark s)) (hidden_counted ss)
  where
    go : (h : Bool) → among true ss ≡ length (filter (λ s. is_hidden (spot_mark s)) ss)
        → length (cond (h || not true) (s ∷ filter (λ s. is_counted true (spot_mark s)) ss) (filter (λ s. is_counted true (spot_mark s)) ss))
        ≡ length (cond h (s ∷ filter (λ s. is_hidden (spot_mark s)) ss) (filter (λ s. is_hidden (spot_mark s)) ss))
    go true e = ap suc e
    go false e = e

-- the nodes of the current tree
pub tree_counted : (y : Option Node) (c : Shape Fiber) → IsTreeOf y c → counted_list false c ≡ node_count y
tree_counted None c is = list_counted false at_root 0 (vacant none) c is
tree_counted (Some x) c is = list_counted false at_root 0 (child x none) c is ∙ ap (among false) (append-nil (spots at_root x)) ∙ all_counted (spots at_root x)

-- and its hidden boundaries
pub tree_hidden : (y : Option Node) (c : Shape Fiber) → IsTreeOf y c → counted_list true c ≡ hidden_count y
tree_hidden None c is = list_counted true at_root 0 (vacant none) c is
tree_hidden (Some x) c is = list_counted true at_root 0 (child x none) c is ∙ ap (among true) (append-nil (spots at_root x)) ∙ hidden_counted (spots at_root x)
