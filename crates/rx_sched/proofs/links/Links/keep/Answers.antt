use Rattle.std.proofs.Common.{◌≡◌, ◌∙◌, ap, arith, true, false, if◌then◌else◌}
use Rattle.rx_lane.specs.Lanes.{has, intersection, no_lanes}
use Rattle.rx_lane.specs.SetLaws.{lane_at}
use Rattle.rx_sched.specs.Links.{links_of, links_among}
use Rattle.rx_sched.proofs.Tables.{write, next_entry, whole, if_true, if_false}
use Rattle.rx_sched.proofs.links.Links.keep.Goals as goal
use Rattle.rx_sched.proofs.links.Links.keep.Goals.{then-has, else-has}

pub loop-lane-preserved : goal.loop-lane-preserved
loop-lane-preserved c =
    elim c.if-has.branch [
      | then-has w ↦
          let here : has c.args.pending (lane_at c.loop-lane.lane-index) ≡ true = cc in
          let entry = next_entry _ no_lanes w.index-self-place.result _ _ c.loop-lane.lane-index _ c.loop-lane.invariant (omega arith) c.priority-place.ensures in
          write _ no_lanes _ _ _ c.loop-lane.lane-index _ _ c.loop-lane.invariant (omega arith) c.priority-place.ensures
          (if_true _ _ _ _ here (w.intersection.ensures ∙ ap (λ s. intersection s c.args.pending) entry)) (ap (λ r. r.sets) w.self-inside-is)
      | else-has w ↦
          let here : has c.args.pending (lane_at c.loop-lane.lane-index) ≡ false = cc in
          write _ no_lanes _ _ _ c.loop-lane.lane-index _ _ c.loop-lane.invariant (omega arith) c.priority-place.ensures
          (if_false _ _ _ _ here w.none.ensures) (ap (λ r. r.sets) w.self-inside-is)
    ]

pub returns : goal.returns
unfolding links_among
returns c =
    whole (λ l. if has c.args.pending l then intersection (links_of c.self.inside.sets l) c.args.pending else no_lanes) no_lanes c.self.inside.sets _ c.loop-lane.lane-index (omega arith) c.loop-lane.invariant
    ∙ ap (λ t. links_among t c.args.pending) c.self.view_is
