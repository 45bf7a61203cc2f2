use Rattle.std.proofs.Common.{◌∙◌, ap, not}
use Rattle.rx_lane.specs.Lanes.{is_empty}
use Rattle.rx_sched.proofs.Steps.{some_transition}
use Rattle.rx_sched.proofs.root_lanes.has_transition.Goals as goal

pub returns : goal.returns
returns c = ap not (c.is_none.ensures ∙ ap is_empty c.transitions.ensures) ∙ some_transition c.args.lanes
