use Rattle.std.specs.Prelude.{if◌then◌else◌}
use Rattle.rx_lane.specs.Lanes.{has, union, no_lanes}
use Rattle.rx_lane.specs.SetLaws.{lane_at}
use Rattle.rx_sched.specs.Links.{links_of}
use Rattle.rx_sched.proofs.Tables.{Fills}
use Rattle.rx_sched.proofs.links.Links.join.Given as goal

-- the links of the lanes so far are written
abbrev pub invariant-loop-lane : goal.invariant-loop-lane
invariant-loop-lane l =
    Fills (λ k. if has l.lanes (lane_at k) then union (links_of l.initial.self-inside.sets (lane_at k)) l.lanes else links_of l.initial.self-inside.sets (lane_at k)) no_lanes l.initial.self-inside.sets l.self-inside.sets l.lane-index
