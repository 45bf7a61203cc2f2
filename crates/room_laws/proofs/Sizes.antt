-- How many fibers stand for nodes.
use Rattle.std.specs.Prelude.{◌≡◌, ℕ, ◌+◌, ◌*◌, ◌≤◌, [], Option, Some, None, length}
use Rattle.std.proofs.Common.{arith}
use Rattle.std.proofs.lemmas.List.{length-append}
use Rattle.rx_elem.specs.Trees.{Node, Forest, none, child}
use Rattle.rx_elem.specs.Spots.{Around, at_root, around_children, spots, spots_in, node_count}
use Rattle.rx_lists.specs.Shapes.{Shape, size}
use Rattle.rx_fiber.specs.Fibers.{Fiber}
use Rattle.rx_fiber.specs.Reading.{AreFor, no_more, gap, next, IsFor, whole, alone, beside, IsTreeOf}

-- a list has at most two fibers for each node
mutual
  few-list : {n : ℕ} {ns : Forest} {s : Shape Fiber} (a : Around) → AreFor n ns s → size s ≤ 2 * length (spots_in a ns)
  few-list a no_more = omega arith
  few-list a (gap h) = few-list a h
  few-list a (next {x = x} {ns = ns} {rest = rest} h hs) =
      omega (arith, length-append (spots a x) (spots_in a ns), few-node a h, few-list a hs)

  few-node : {n : ℕ} {x : Node} {s rest : Shape Fiber} (a : Around) → IsFor n x s rest → size s ≤ 2 * length (spots a x) + size rest
  few-node a (whole {m = m} {ns = ns} o h ks) =
      omega (arith, length-append (spots_in (around_children a m) ns) [], few-list (around_children a m) ks)
  few-node a (alone {m = m} {ns = ns} {fs = fs} o h e ks) =
      omega (arith, length-append (spots_in (around_children a m) ns) (spots_in a fs), few-list a ks)
  few-node a (beside {m = m} {ns = ns} {fs = fs} o h e ks w ws) =
      omega (arith, length-append (spots_in (around_children a m) ns) (spots_in a fs), few-list (around_children a m) ks, few-list a ws)

-- so has a tree
pub few : (tree : Option Node) (s : Shape Fiber) → IsTreeOf tree s → size s ≤ 2 * node_count tree
few None s h = few-list at_root h
few (Some x) s h = let e : length (spots_in at_root (child x none)) ≡ length (spots at_root x) = omega (arith, length-append (spots at_root x) []) in omega (arith, e, few-list at_root h)
