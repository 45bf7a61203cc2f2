use Rattle.std.proofs.Common.{◌∙◌, ap, is_none}
use Rattle.rx_lane.specs.Lanes.{intersection, lanes_where}
use Rattle.rx_sched.specs.Deadlines.{timed, deadline_of, deadline_from}
use Rattle.rx_sched.specs.Schedule.{wake}
use Rattle.rx_sched.proofs.Steps.{same_parts, intersection-lanes_where}
use Rattle.rx_sched.proofs.root_lanes.RootLanes.wake.Goals as goal

pub returns : goal.returns
returns c =
    same_parts _ _ _ _ _ _ _ _ _
    (c.begin.ensures
    ∙ ap (λ s. timed c.self.inside.deadlines s (deadline_from c.args.now))
    (c.intersection.ensures
    ∙ ap (intersection c.intersection-woken.result) c.missing.ensures
    ∙ ap (λ w. intersection w (lanes_where (λ l. is_none (deadline_of c.self.inside.deadlines l)))) c.intersection-woken.ensures
    ∙ intersection-lanes_where (intersection c.self.inside.suspended c.self.inside.pending) (λ l. is_none (deadline_of c.self.inside.deadlines l))))
    c.none-self-inside.ensures
    c.none-self-inside-2.ensures
    ∙ ap (wake c.args.now) c.self.view_is
