use Rattle.std.proofs.Common.{◌+◌, ◌*◌}
use Rattle.rx_elem.specs.Trees.{forest, height, height_in}
use Rattle.rx_spots.specs.Waits.{waits_in}
use Rattle.rx_spots.proofs.Waiting.{MakesWhole}
use Rattle.rx_spots.proofs.boundaries.+awaiting.Given as goal

abbrev pub decreases-awaits_from : goal.decreases-awaits_from
decreases-awaits_from l = 2 * height l.node.now + 1

abbrev pub decreases-awaits_in : goal.decreases-awaits_in
decreases-awaits_in l = 2 * height_in (forest l.places.now) + 2

-- the set so far and what is waited for from here on make the whole
abbrev pub invariant-awaits_in-loop-place : goal.invariant-awaits_in-loop-place
invariant-awaits_in-loop-place l = MakesWhole (waits_in (forest l.places)) l.places l.place-index l.awaits
