use Rattle.std.specs.Prelude.{None, if◌then◌else◌}
use Rattle.rx_lane.specs.Lanes.{has}
use Rattle.rx_lane.specs.SetLaws.{lane_at}
use Rattle.rx_sched.specs.Deadlines.{deadline_of, deadline_from}
use Rattle.rx_sched.proofs.Tables.{Fills}
use Rattle.rx_sched.proofs.deadlines.Deadlines.begin.Given as goal

-- the deadlines of the lanes so far are written
abbrev pub invariant-loop-lane : goal.invariant-loop-lane
invariant-loop-lane l =
    Fills (λ k. if has l.lanes (lane_at k) then deadline_from l.now (lane_at k) else deadline_of l.initial.self-inside.moments (lane_at k)) None l.initial.self-inside.moments l.self-inside.moments l.lane-index
