-- A node of the code as plain data.
use Rattle.rx_elem.specs.Trees as trees
use Rattle.rx_elem.specs.Trees.{forest}
use Rattle.rx_node.specs.MarkView.{mark_seen}
use Rattle.rx_node.specs.declared.node.Parts.{Parts}

-- what is in a node
abbrev pub node_seen : Parts → trees.Node
node_seen p = trees.node p.element (mark_seen p.mark) (forest p.children.items) (forest p.fallback.items)
