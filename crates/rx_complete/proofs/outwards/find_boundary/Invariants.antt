use Rattle.rx_fiber.specs.Unwound.{is_trying}
use Rattle.rx_complete.proofs.Depths.{depth_of}
use Rattle.rx_complete.proofs.Nearest.{ComesFrom}
use Rattle.rx_complete.proofs.Waiting.{Reaches}
use Rattle.rx_complete.proofs.outwards.find_boundary.Given as goal

-- the wait has come to the fiber where the walk is
abbrev pub invariant-outwards : goal.invariant-outwards
invariant-outwards l =
    Reaches l.tree l.initial.contexts l.initial.here l.initial.awaits l.contexts l.here l.awaits × ComesFrom is_trying l.tree l.initial.here l.here

abbrev pub decreases-outwards : goal.decreases-outwards
decreases-outwards l = depth_of l.tree.draft l.here
