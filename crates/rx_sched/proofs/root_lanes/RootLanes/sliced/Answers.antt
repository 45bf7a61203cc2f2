use Rattle.std.proofs.Common.{◌∙◌, ap, not}
use Rattle.rx_sched.specs.Deadlines.{is_expired}
use Rattle.rx_sched.specs.Schedule.{is_sliced}
use Rattle.rx_sched.proofs.Steps.{within_slow_lanes}
use Rattle.rx_sched.proofs.root_lanes.RootLanes.sliced.Goals as goal

pub returns : goal.returns
returns c =
    c.within.ensures
    ∙ within_slow_lanes (λ l. not (is_expired c.self.inside.deadlines c.args.now l)) c.args.lanes _ _ _ _ _
    c.unexpired-unexpired.ensures c.transitions.ensures c.one.ensures c.intersection-retry.ensures c.union.ensures
    ∙ ap (λ s. is_sliced s c.args.lanes c.args.now) c.self.view_is
