use Rattle.std.specs.Prelude.{◌≡◌, is_none, take}
use Rattle.rx_lane.specs.Lanes.{all_lanes, one}
use Rattle.rx_sched.specs.Deadlines.{deadline_of}
use Rattle.rx_sched.proofs.Gather.{gather}
use Rattle.rx_sched.proofs.deadlines.Deadlines.missing.Given as goal

-- the lanes so far that pass are found
abbrev pub invariant-loop-lane : goal.invariant-loop-lane
invariant-loop-lane l = l.found ≡ gather (λ m. is_none (deadline_of l.self m)) one (take l.lane-index all_lanes)
