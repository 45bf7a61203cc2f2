use Rattle.std.proofs.Common.{◌≡◌, ◌+◌, ◌<◌, ◌≤◌, true}
use Rattle.rx_loop.proofs.turn.drive.Given as goal

-- the units so far are counted, some are left, and a slice isn't used up
abbrev pub invariant-driving : goal.invariant-driving
invariant-driving g l =
    (g.U.Units.done l.units ≡ g.U.Units.done l.initial.units + l.used)
    × (0 < g.U.Units.left l.units)
    × (l.used + g.U.Units.left l.units ≤ g.U.Units.left l.initial.units)
    × (l.fn.sliced ≡ true → l.used < l.fn.budget)
    × g.U.Units.goes_on l.initial.units l.units
    × (l.steps + g.U.Units.bodies l.initial.units ≡ l.initial.steps + g.U.Units.bodies l.units)
    × (l.initial.steps ≤ l.steps)
    × (g.U.Units.bodies l.units ≤ g.U.Units.bodies l.initial.units + l.used)

abbrev pub decreases-driving : goal.decreases-driving
decreases-driving g l = g.U.Units.left l.units
