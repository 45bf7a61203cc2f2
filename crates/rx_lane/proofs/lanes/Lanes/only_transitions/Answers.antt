use Rattle.std.proofs.Common.{◌∙◌}
use Rattle.rx_lane.specs.BitLaws.{within-transitions}
use Rattle.rx_lane.proofs.lanes.Lanes.only_transitions.Goals as goal

pub returns : goal.returns
returns c = c.within.ensures ∙ within-transitions c.args.self
