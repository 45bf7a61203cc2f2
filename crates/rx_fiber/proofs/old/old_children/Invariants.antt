use Rattle.std.proofs.Common.{◌≡◌, ◌++◌, length, None, Some, IfSome}
use Rattle.rx_elem.specs.Elements as elements
use Rattle.rx_lists.specs.Shapes.{Holds, size}
use Rattle.rx_links.specs.Readers.{list_from}
use Rattle.rx_fiber.specs.OldLists.{spread, old_elements, old_fibers}
use Rattle.rx_fiber.proofs.old.old_children.Given as goal

-- with what the rest of the list tells each list is what it is to be
abbrev pub invariant-listing : goal.invariant-listing
invariant-listing l = record {
  held : IfSome l.next (Holds l.tree.current);
  same : length l.children.elements.items ≡ length l.children.fibers.items;
  elements :
      l.children.elements.items ++ spread elements.null (λ id v. v.element) (length l.children.elements.items) (list_from l.tree.current l.next)
      ≡ old_elements (list_from l.tree.current l.initial.next);
  fibers :
      l.children.fibers.items ++ spread None (λ id v. Some id) (length l.children.fibers.items) (list_from l.tree.current l.next)
      ≡ old_fibers (list_from l.tree.current l.initial.next);
}

abbrev pub decreases-listing : goal.decreases-listing
decreases-listing l = size (list_from l.tree.current l.next)
