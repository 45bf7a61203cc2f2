use Rattle.std.proofs.Common.{◌≡◌, ◌∙◌, arith, true, false, is_none}
use Rattle.rx_lane.specs.Lanes.{one}
use Rattle.rx_lane.specs.SetLaws.{lane_at}
use Rattle.rx_sched.specs.Deadlines.{deadline_of}
use Rattle.rx_sched.proofs.Gather.{add_part, add_none, gathered, gather-one}
use Rattle.rx_sched.proofs.deadlines.Deadlines.missing.Goals as goal
use Rattle.rx_sched.proofs.deadlines.Deadlines.missing.Goals.{then-is_missing, else-is_missing}

pub loop-lane-preserved : goal.loop-lane-preserved
loop-lane-preserved c =
    elim c.if-is_missing.branch [
      | then-is_missing w ↦
          let pass : is_none (deadline_of c.args.self.now (lane_at c.loop-lane.lane-index)) ≡ true = cc in
          add_part (λ m. is_none (deadline_of c.args.self.now m)) one c.loop-lane.lane-index _ _ _ (omega arith) pass c.loop-lane.invariant w.one.ensures (w.found-is ∙ w.union-found.ensures)
      | else-is_missing w ↦
          let pass : is_none (deadline_of c.args.self.now (lane_at c.loop-lane.lane-index)) ≡ false = cc in
          add_none (λ m. is_none (deadline_of c.args.self.now m)) one c.loop-lane.lane-index _ _ (omega arith) pass c.loop-lane.invariant w.found-is
    ]

pub returns : goal.returns
returns c = gathered (λ m. is_none (deadline_of c.args.self.now m)) one c.loop-lane.lane-index _ (omega arith) c.loop-lane.invariant ∙ gather-one (λ m. is_none (deadline_of c.args.self.now m))
