use Rattle.std.proofs.Common.{◌≡◌, ◌-◌, ◌++◌, length, None}
use Rattle.rx_fiber.specs.OldLists.{filled}
use Rattle.rx_read.proofs.reading.fill.Given as goal

-- with the places that are left to fill the list is what it is to be
abbrev pub invariant-filling : goal.invariant-filling
invariant-filling l =
    l.nodes.items ++ filled (l.place - length l.nodes.items) None
    ≡ l.initial.nodes.items ++ filled (l.place - length l.initial.nodes.items) None

abbrev pub decreases-filling : goal.decreases-filling
decreases-filling l = l.place - length l.nodes.items
