-- A tree without the vacant places at the ends of its lists: all that a commit reads of it.
use Rattle.std.specs.Prelude.{Option, option_map}
use Rattle.rx_elem.specs.Trees.{Node, node, Forest, none, vacant, child}

-- a vacant place before the other places of a list, but none if no place follows
abbrev pub vacant_before : Forest → Forest
vacant_before none = none
vacant_before (vacant ns) = vacant (vacant ns)
vacant_before (child n ns) = vacant (child n ns)

-- a tree without the vacant places at the ends of its lists
abbrev mutual
  pub trimmed : Node → Node
  trimmed (node e m ns fs) = node e m (trimmed_in ns) (trimmed_in fs)

  -- a list without the vacant places at its end, and each of its trees the same
  pub trimmed_in : Forest → Forest
  trimmed_in none = none
  trimmed_in (vacant ns) = vacant_before (trimmed_in ns)
  trimmed_in (child n ns) = child (trimmed n) (trimmed_in ns)

-- the same of a tree that may be missing
abbrev pub trimmed_if : Option Node → Option Node
trimmed_if tree = option_map trimmed tree
