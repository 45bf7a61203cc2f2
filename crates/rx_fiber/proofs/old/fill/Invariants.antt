use Rattle.std.proofs.Common.{◌≡◌, ◌-◌, ◌++◌, length, None}
use Rattle.rx_elem.specs.Elements as elements
use Rattle.rx_fiber.specs.OldLists.{filled}
use Rattle.rx_fiber.proofs.old.fill.Given as goal

-- with the places that are left to fill each list is what it is to be
abbrev pub invariant-filling : goal.invariant-filling
invariant-filling l = record {
  elements :
      l.children.elements.items ++ filled (l.place - length l.children.elements.items) elements.null
      ≡ l.initial.children.elements.items ++ filled (l.place - length l.initial.children.elements.items) elements.null;
  fibers :
      l.children.fibers.items ++ filled (l.place - length l.children.elements.items) None
      ≡ l.initial.children.fibers.items ++ filled (l.place - length l.initial.children.elements.items) None;
}

abbrev pub decreases-filling : goal.decreases-filling
decreases-filling l = l.place - length l.children.elements.items
