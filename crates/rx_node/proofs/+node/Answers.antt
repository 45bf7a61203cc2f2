use Rattle.std.proofs.Common.{arith, rules, ◌≤◌, ◌+◌, ◌*◌, List, [], ◌∷◌, Option, Some, None}
use denote.Param.Weighed.{most}
use Rattle.rx_elem.specs.Trees.{Node, height}
use Rattle.rx_node.specs.declared.node.Node.TheShapes.{weighed-Parts-children-at-1}
use Rattle.rx_node.specs.declared.node.Node.TheDeep.{size-Node}
use Rattle.rx_node.proofs.+node.Goals as goal

-- a step into a node counts twice: for it, and for what is in it
most_le-twice : (ns : List (Option Node))
    → most ((weighed-Parts-children-at-1).weight Node size-Node) ns ≤ 2 * most ((weighed-Parts-children-at-1).weight Node (λ n. height n + 1)) ns
most_le-twice [] = omega arith
most_le-twice (None ∷ ns) = omega (arith, most_le-twice ns)
most_le-twice (Some n ∷ ns) = omega (arith, most_le-twice ns)

-- the children are lower than the node
pub rx_node++node++Parts+Destruct::drop-drop-requires-2 :
    goal.rx_node++node++Parts+Destruct::drop-drop-requires-2
rx_node++node++Parts+Destruct::drop-drop-requires-2 t c κs =
    (((omega (arith, c.decreases, most_le-twice c.args.arg1.children.items), tt), tt), (search rules, search rules))

-- so is the fallback
pub rx_node++node++Parts+Destruct::drop-drop-requires-3 :
    goal.rx_node++node++Parts+Destruct::drop-drop-requires-3
rx_node++node++Parts+Destruct::drop-drop-requires-3 t c κs =
    (((omega (arith, c.decreases, most_le-twice c.args.arg1.fallback.items), tt), tt), (search rules, search rules))
