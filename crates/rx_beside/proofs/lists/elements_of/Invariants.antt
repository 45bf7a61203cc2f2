use Rattle.std.proofs.Common.{◌≡◌, map, take}
use Rattle.rx_compare.specs.Matched.{element_at}
use Rattle.rx_read.specs.Lists.{list_of}
use Rattle.rx_read.specs.Places.{first_node}
use Rattle.rx_beside.proofs.lists.elements_of.Given as goal

-- the elements so far
abbrev pub invariant-loop-child : goal.invariant-loop-child
invariant-loop-child l = l.elements.items ≡ map (λ o. element_at (first_node (list_of l.tree o))) (take l.child-index l.fibers)
