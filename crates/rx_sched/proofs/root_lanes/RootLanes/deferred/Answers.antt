use Rattle.std.proofs.Common.{◌∙◌, ap, not, None, slice_index_or}
use Rattle.rx_queue.specs.Pairs.{in_versions}
use Rattle.rx_lane.specs.Lanes.{intersection}
use Rattle.rx_sched.specs.Deadlines.{timed, is_expired}
use Rattle.rx_sched.specs.Schedule.{after_deferral}
use Rattle.rx_sched.proofs.Steps.{same_parts, intersection-lanes_where}
use Rattle.rx_sched.proofs.root_lanes.RootLanes.deferred.Goals as goal

pub returns : goal.returns
returns c =
    same_parts _ _ _ _ _ _ _ _ _
    (c.end.ensures
    ∙ ap (λ s. timed c.self.inside.deadlines s (λ l. None))
    (c.intersection.ensures
    ∙ ap (intersection c.args.lanes) c.unexpired.ensures
    ∙ intersection-lanes_where c.args.lanes (λ l. not (is_expired c.self.inside.deadlines c.args.now l))))
    c.union-self-inside.ensures
    c.add.ensures
    ∙ ap (λ s. after_deferral s c.args.lanes (in_versions (λ r. slice_index_or c.args.versions.now r 0) c.args.waits.now) c.args.now) c.self.view_is
