use Rattle.std.proofs.Common.{◌≡◌, ◌++◌, None}
use Rattle.rx_fiber.specs.OldLists.{filled}
use Rattle.rx_beside.proofs.children.fill.Given as goal

-- so many vacant places so far
abbrev pub invariant-filling : goal.invariant-filling
invariant-filling g l = l.places.items ≡ l.initial.places.items ++ filled l._done None
