-- What holds of each node of a tree.
use Rattle.rx_elem.specs.Trees.{Forest, Mark, Node, child, node, none, vacant}

-- this holds of the mark of each node of a tree, of what is kept and of fallbacks too
abbrev mutual
  pub ForEach : (Mark → Type 0) → Node → Type 0
  ForEach P (node e m ns fs) = P m × ForEachIn P ns × ForEachIn P fs

  -- the same for the trees of a list
  pub ForEachIn : (Mark → Type 0) → Forest → Type 0
  ForEachIn P none = Unit {0}
  ForEachIn P (vacant ns) = ForEachIn P ns
  ForEachIn P (child n ns) = ForEach P n × ForEachIn P ns
