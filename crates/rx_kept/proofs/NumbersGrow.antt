-- A commit gives no more numbers than its tree has nodes.
use Rattle.std.proofs.Common.{◌≡◌, ℕ, ◌+◌, ◌≤◌, ◌++◌, length, arith, Option, Some, None}
use Rattle.std.proofs.lemmas.List.{length-append}
use Rattle.rx_elem.specs.Trees.{Instance, Mark, of_instance, of_host, of_boundary, of_catcher, plain, Node, node, Forest, none, vacant, child}
use Rattle.rx_elem.specs.Spots.{Around, around_children, at_root, spots, spots_in, node_count}
use Rattle.rx_elem.specs.Numbers.{Numbers, numbered_instance, numbered_host, numbered_mark, numbered, numbered_in}

-- the numbers that come next grew by so many at most
abbrev Grew : ℕ → (before after : Numbers) → Type 0
Grew n before after = (after.instance ≤ before.instance + n) × (after.host ≤ before.host + n)

instance_grows : (next : Numbers) (i : Instance) (o : Option ℕ) → Grew 1 next (numbered_instance next i o).0
instance_grows next i None = (omega arith, omega arith)
instance_grows next i (Some n) = (omega arith, omega arith)

host_grows : (next : Numbers) (o : Option ℕ) → Grew 1 next (numbered_host next o).0
host_grows next None = (omega arith, omega arith)
host_grows next (Some n) = (omega arith, omega arith)

mark_grows : (next : Numbers) (m : Mark) → Grew 1 next (numbered_mark next m).0
mark_grows next (of_instance i) = instance_grows next i i.number
mark_grows next (of_host n) = host_grows next n
mark_grows next (of_boundary b) = (omega arith, omega arith)
mark_grows next (of_catcher c) = (omega arith, omega arith)
mark_grows next plain = (omega arith, omega arith)

mutual
  grows : (a : Around) (next : Numbers) (n : Node) → Grew (length (spots a n)) next (numbered next n).0
  grows a next (node e m ns fs) =
      let own = mark_grows next m in
      let below = all_grow (around_children a m) (numbered_mark next m).0 ns in
      let behind = all_grow a (numbered_in (numbered_mark next m).0 ns).0 fs in
      let sum : length (spots_in (around_children a m) ns ++ spots_in a fs) ≡ length (spots_in (around_children a m) ns) + length (spots_in a fs) = length-append _ _ in
      (omega (arith, own.0, below.0, behind.0, sum), omega (arith, own.1, below.1, behind.1, sum))

  all_grow : (a : Around) (next : Numbers) (ns : Forest) → Grew (length (spots_in a ns)) next (numbered_in next ns).0
  all_grow a next none = (omega arith, omega arith)
  all_grow a next (vacant ns) = all_grow a next ns
  all_grow a next (child n ns) =
      let first = grows a next n in
      let rest = all_grow a (numbered next n).0 ns in
      let sum : length (spots a n ++ spots_in a ns) ≡ length (spots a n) + length (spots_in a ns) = length-append _ _ in
      (omega (arith, first.0, rest.0, sum), omega (arith, first.1, rest.1, sum))

pub instances_grow : (next : Numbers) (n : Node) → (numbered next n).0.instance ≤ next.instance + node_count (Some n)
instances_grow next n = (grows at_root next n).0

pub hosts_grow : (next : Numbers) (n : Node) → (numbered next n).0.host ≤ next.host + node_count (Some n)
hosts_grow next n = (grows at_root next n).1
