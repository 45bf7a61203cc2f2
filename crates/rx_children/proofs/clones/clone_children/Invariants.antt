use Rattle.rx_lists.specs.Shapes.{size}
use Rattle.rx_links.specs.Readers.{list_from}
use Rattle.rx_children.proofs.Behind.{IsClonedUpTo}
use Rattle.rx_children.proofs.clones.clone_children.Given as goal

-- the clones of the fibers before the next one are made
abbrev pub invariant-cloning : goal.invariant-cloning
invariant-cloning l = IsClonedUpTo l.visible l.initial.tree l.tree l.at l.initial.next l.next l.so_far.last l.so_far.place

abbrev pub decreases-cloning : goal.decreases-cloning
decreases-cloning l = size (list_from l.tree.current l.next)
