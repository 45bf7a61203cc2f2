use Rattle.std.specs.Prelude.{◌≡◌, not, take}
use Rattle.rx_lane.specs.Lanes.{all_lanes, one}
use Rattle.rx_sched.specs.Deadlines.{is_expired}
use Rattle.rx_sched.proofs.Gather.{gather}
use Rattle.rx_sched.proofs.deadlines.Deadlines.unexpired.Given as goal

-- the lanes so far that pass are found
abbrev pub invariant-loop-lane : goal.invariant-loop-lane
invariant-loop-lane l = l.found ≡ gather (λ m. not (is_expired l.self l.now m)) one (take l.lane-index all_lanes)
