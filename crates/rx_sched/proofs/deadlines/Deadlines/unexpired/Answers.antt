use Rattle.std.proofs.Common.{◌≡◌, ◌∙◌, arith, true, false, not}
use Rattle.rx_lane.specs.Lanes.{one}
use Rattle.rx_lane.specs.SetLaws.{lane_at}
use Rattle.rx_sched.specs.Deadlines.{is_expired}
use Rattle.rx_sched.proofs.Gather.{add_part, add_none, gathered, gather-one}
use Rattle.rx_sched.proofs.deadlines.Deadlines.unexpired.Goals as goal
use Rattle.rx_sched.proofs.deadlines.Deadlines.unexpired.Goals.{then-not-is_expired, else-not-is_expired}

pub loop-lane-preserved : goal.loop-lane-preserved
loop-lane-preserved c =
    elim c.if-not-is_expired.branch [
      | then-not-is_expired w ↦
          let pass : not (is_expired c.args.self.now c.args.now (lane_at c.loop-lane.lane-index)) ≡ true = cc in
          add_part (λ m. not (is_expired c.args.self.now c.args.now m)) one c.loop-lane.lane-index _ _ _ (omega arith) pass c.loop-lane.invariant w.one.ensures (w.found-is ∙ w.union-found.ensures)
      | else-not-is_expired w ↦
          let pass : not (is_expired c.args.self.now c.args.now (lane_at c.loop-lane.lane-index)) ≡ false = cc in
          add_none (λ m. not (is_expired c.args.self.now c.args.now m)) one c.loop-lane.lane-index _ _ (omega arith) pass c.loop-lane.invariant w.found-is
    ]

pub returns : goal.returns
returns c = gathered (λ m. not (is_expired c.args.self.now c.args.now m)) one c.loop-lane.lane-index _ (omega arith) c.loop-lane.invariant ∙ gather-one (λ m. not (is_expired c.args.self.now c.args.now m))
