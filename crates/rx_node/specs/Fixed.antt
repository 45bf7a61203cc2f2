-- What a commit leaves as it is.
use Rattle.std.specs.Prelude.{Bool, true, false, ◌&&◌, is_some}
use Rattle.rx_elem.specs.Trees.{Mark, of_instance, of_host, of_boundary, of_catcher, plain, Node, node, Forest, none, vacant, child}

-- a commit leaves a mark as it is: it is not one of a new instance or a new host
abbrev pub is_fixed_mark : Mark → Bool
is_fixed_mark (of_instance i) = is_some i.number
is_fixed_mark (of_host n) = is_some n
is_fixed_mark (of_boundary b) = true
is_fixed_mark (of_catcher c) = true
is_fixed_mark plain = true

-- nothing at a node or below is new, and no list of it ends with a vacant place
abbrev mutual
  pub is_fixed : Node → Bool
  is_fixed (node e m ns fs) = is_fixed_mark m && (are_fixed true ns && are_fixed true fs)

  -- the same for the rest of a list, behind no place or one with a tree, or behind a vacant one
  pub are_fixed : Bool → Forest → Bool
  are_fixed filled none = filled
  are_fixed filled (vacant ns) = are_fixed false ns
  are_fixed filled (child n ns) = is_fixed n && are_fixed true ns
