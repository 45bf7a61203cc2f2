use Rattle.rx_fiber.specs.Unwound.{is_guarding}
use Rattle.rx_complete.proofs.Depths.{depth_of}
use Rattle.rx_complete.proofs.Nearest.{ComesFrom}
use Rattle.rx_complete.proofs.Throwing.{Reaches}
use Rattle.rx_complete.proofs.outwards.find_catch.Given as goal

-- the throw has come to the fiber where the walk is
abbrev pub invariant-outwards : goal.invariant-outwards
invariant-outwards l = Reaches l.tree l.initial.contexts l.initial.here l.contexts l.here × ComesFrom is_guarding l.tree l.initial.here l.here

abbrev pub decreases-outwards : goal.decreases-outwards
decreases-outwards l = depth_of l.tree.draft l.here
