-- How many nodes the places of a list have that are done.
use Rattle.std.specs.Prelude.{◌≡◌, suc, ◌+◌, ◌≤◌, true, List, [], ◌∷◌, ◌++◌, Option, Some, None, length, refl}
use Rattle.std.proofs.Common.{arith}
use Rattle.std.proofs.lemmas.List.{length-append}
use Rattle.rx_elem.specs.Elements.{Element}
use Rattle.rx_elem.specs.Trees.{Mark, Node, node, Forest, none, vacant, child, forest}
use Rattle.rx_elem.specs.Spots.{Around, at_root, around_children, spots, spots_in, node_count}
use Rattle.rx_fiber.specs.Reading.{has_node}

-- what surrounds a list changes nothing of how many nodes it has
mutual
  pub nodes_same : (a b : Around) (ns : Forest) → length (spots_in a ns) ≡ length (spots_in b ns)
  nodes_same a b none = refl
  nodes_same a b (vacant ns) = nodes_same a b ns
  nodes_same a b (child n ns) =
      omega (arith, length-append (spots a n) (spots_in a ns), length-append (spots b n) (spots_in b ns), node_same a b n, nodes_same a b ns)

  node_same : (a b : Around) (n : Node) → length (spots a n) ≡ length (spots b n)
  node_same a b (node e m ns fs) =
      omega (
        arith,
        length-append (spots_in (around_children a m) ns) (spots_in a fs),
        length-append (spots_in (around_children b m) ns) (spots_in b fs),
        nodes_same (around_children a m) (around_children b m) ns,
        nodes_same a b fs,
      )

-- a list has the nodes of its places
pub nodes_append : (xs ys : List (Option Node)) → length (spots_in at_root (forest (xs ++ ys))) ≡ length (spots_in at_root (forest xs)) + length (spots_in at_root (forest ys))
nodes_append [] ys = omega arith
nodes_append (None ∷ xs) ys = nodes_append xs ys
nodes_append (Some n ∷ xs) ys =
    omega (
      arith,
      length-append (spots at_root n) (spots_in at_root (forest (xs ++ ys))),
      length-append (spots at_root n) (spots_in at_root (forest xs)),
      nodes_append xs ys,
    )

-- one more place has a node
pub node_more : (done : List (Option Node)) (x : Node) → length (spots_in at_root (forest (done ++ Some x ∷ []))) ≡ length (spots_in at_root (forest done)) + node_count (Some x)
node_more done x = omega (arith, nodes_append done (Some x ∷ []), length-append (spots at_root x) [])

-- one more place has none
pub none_more : (done : List (Option Node)) → length (spots_in at_root (forest (done ++ None ∷ []))) ≡ length (spots_in at_root (forest done))
none_more done = omega (arith, nodes_append done (None ∷ []))

-- a node counts
pub node_there : (x : Node) → 1 ≤ node_count (Some x)
node_there (node e m ns fs) = omega arith

-- a list that has a node has one at least
pub some_there : (ns : Forest) → has_node ns ≡ true → 1 ≤ length (spots_in at_root ns)
some_there none h = absurd (cc h)
some_there (vacant ns) h = some_there ns h
some_there (child n ns) h = omega (arith, length-append (spots at_root n) (spots_in at_root ns), node_there n)

-- a node has itself, its children and its fallback
pub node_parts : (e : Element) (m : Mark) (ns fs : Forest)
    → node_count (Some (node e m ns fs)) ≡ suc (length (spots_in at_root ns) + length (spots_in at_root fs))
node_parts e m ns fs =
    omega (arith, length-append (spots_in (around_children at_root m) ns) (spots_in at_root fs), nodes_same (around_children at_root m) at_root ns)
