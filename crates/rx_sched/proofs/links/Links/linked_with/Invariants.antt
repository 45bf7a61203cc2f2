use Rattle.rx_sched.proofs.Following.{IsFollowed}
use Rattle.rx_sched.proofs.Reach.{size}
use Rattle.rx_sched.proofs.links.Links.linked_with.Given as goal

-- what the lanes so far are linked with is found
abbrev pub invariant-loop-lane : goal.invariant-loop-lane
invariant-loop-lane l = IsFollowed l.self l.found l.left l.fn.lanes

-- the lanes that are left get fewer
abbrev pub decreases-loop-lane : goal.decreases-loop-lane
decreases-loop-lane l = size l.left
