use Rattle.std.proofs.Common.{◌≡◌, ◌∙◌, ap, arith, refl, true, false, if◌then◌else◌}
use Rattle.rx_lane.specs.Lanes.{has, union, no_lanes}
use Rattle.rx_lane.specs.SetLaws.{lane_at}
use Rattle.rx_sched.specs.Links.{links_of, linked_by}
use Rattle.rx_sched.proofs.Tables.{write, skip, next_entry, whole, if_true, if_false}
use Rattle.rx_sched.proofs.links.Links.join.Goals as goal
use Rattle.rx_sched.proofs.links.Links.join.Goals.{then-has, else-has}

pub loop-lane-preserved : goal.loop-lane-preserved
loop-lane-preserved c =
    elim c.if-has.branch [
      | then-has w ↦
          let here : has c.args.lanes (lane_at c.loop-lane.lane-index) ≡ true = cc in
          let entry = next_entry _ no_lanes w.index-self-place.result _ _ c.loop-lane.lane-index _ c.loop-lane.invariant (omega arith) w.priority-place.ensures in
          write _ no_lanes _ _ _ c.loop-lane.lane-index _ _ c.loop-lane.invariant (omega arith) w.priority-place.ensures
          (if_true _ _ _ _ here (w.union.ensures ∙ ap (λ s. union s c.args.lanes) entry)) (ap (λ r. r.sets) w.self-inside-is)
      | else-has w ↦
          let here : has c.args.lanes (lane_at c.loop-lane.lane-index) ≡ false = cc in
          skip _ no_lanes _ _ _ c.loop-lane.lane-index c.loop-lane.invariant (omega arith) (if_false _ _ _ _ here refl) (ap (λ r. r.sets) w.self-inside-is)
    ]

pub returns : goal.returns
unfolding linked_by
returns c =
    whole (λ l. if has c.args.lanes l then union (links_of c.self.inside.sets l) c.args.lanes else links_of c.self.inside.sets l) no_lanes c.self.inside.sets _ c.loop-lane.lane-index (omega arith) c.loop-lane.invariant
    ∙ ap (λ t. linked_by t c.args.lanes) c.self.view_is
