use Rattle.std.proofs.Common.{◌≡◌, IfSome}
use Rattle.rx_lists.specs.Shapes.{Holds, size}
use Rattle.rx_links.specs.Readers.{list_from}
use Rattle.rx_fiber.specs.Fibers.{joined}
use Rattle.rx_fiber.specs.Subtrees.{subtrees_of}
use Rattle.rx_fiber.proofs.old.list_subtree.Given as goal

-- with what the rest of the list keeps it is what all of it keeps
abbrev pub invariant-gathering : goal.invariant-gathering
invariant-gathering l = record {
  held : IfSome l.next (Holds l.tree.current);
  tells : joined l.below (subtrees_of (list_from l.tree.current l.next)) ≡ subtrees_of (list_from l.tree.current l.initial.next);
}

abbrev pub decreases-gathering : goal.decreases-gathering
decreases-gathering l = size (list_from l.tree.current l.next)
