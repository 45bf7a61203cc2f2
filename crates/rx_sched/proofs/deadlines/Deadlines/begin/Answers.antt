use Rattle.std.proofs.Common.{◌≡◌, ◌∙◌, ap, arith, refl, true, false, None, if◌then◌else◌}
use Rattle.rx_lane.specs.Lanes.{has}
use Rattle.rx_lane.specs.SetLaws.{lane_at}
use Rattle.rx_sched.specs.Deadlines.{deadline_of, deadline_from, timed}
use Rattle.rx_sched.proofs.Tables.{write, skip, whole, if_true, if_false}
use Rattle.rx_sched.proofs.deadlines.Deadlines.begin.Goals as goal
use Rattle.rx_sched.proofs.deadlines.Deadlines.begin.Goals.{then-has, else-has}

pub loop-lane-preserved : goal.loop-lane-preserved
loop-lane-preserved c =
    elim c.if-has.branch [
      | then-has w ↦
          let here : has c.args.lanes (lane_at c.loop-lane.lane-index) ≡ true = cc in
          write _ None _ _ _ c.loop-lane.lane-index _ _ c.loop-lane.invariant (omega arith) w.priority.ensures (if_true _ _ _ _ here w.deadline_from.ensures) (ap (λ r. r.moments) w.self-inside-is)
      | else-has w ↦
          let here : has c.args.lanes (lane_at c.loop-lane.lane-index) ≡ false = cc in
          skip _ None _ _ _ c.loop-lane.lane-index c.loop-lane.invariant (omega arith) (if_false _ _ _ _ here refl) (ap (λ r. r.moments) w.self-inside-is)
    ]

pub returns : goal.returns
unfolding timed
returns c =
    whole (λ l. if has c.args.lanes l then deadline_from c.args.now l else deadline_of c.self.inside.moments l) None c.self.inside.moments _ c.loop-lane.lane-index (omega arith) c.loop-lane.invariant
    ∙ ap (λ t. timed t c.args.lanes (deadline_from c.args.now)) c.self.view_is
