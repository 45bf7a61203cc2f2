-- Each node of a list is lower than the node that it is below.
use Rattle.std.specs.Prelude.{ℕ, ◌+◌, ◌≤◌, max, List, [], ◌∷◌, Option, Some, None}
use Rattle.std.proofs.Common.{arith}
use denote.Param.Weighed.{most}
use Rattle.rx_elem.specs.Trees as trees
use Rattle.rx_elem.specs.Trees.{height, height_in, forest}
use Rattle.rx_node.specs.NodeView.{node_seen}
use Rattle.rx_node.specs.declared.node.Parts.{Parts}
use Rattle.rx_node.specs.declared.node.Node.TheShapes.{weighed-Parts-children-at-1}
use Rattle.rx_node.specs.declared.node.Node.TheDeep.{deep-Parts}

-- how much a place of a list weighs
abbrev weight : Option trees.Node → ℕ
weight = (weighed-Parts-children-at-1).weight trees.Node (λ n. height n + 1)

most_le-height_in : (ns : List (Option trees.Node)) → most weight ns ≤ height_in (forest ns) + 1
most_le-height_in [] = omega arith
most_le-height_in (None ∷ ns) = omega (arith, most_le-height_in ns)
most_le-height_in (Some n ∷ ns) = omega (arith, most_le-height_in ns)

pub height_falls : (p : Parts) → max (deep-Parts p) 0 ≤ height (node_seen p)
height_falls p = omega (arith, most_le-height_in p.children.items, most_le-height_in p.fallback.items)
