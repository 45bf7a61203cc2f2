use Rattle.std.proofs.Common.{◌∙◌, ap}
use Rattle.rx_lane.specs.Lanes.{transitions}
use Rattle.rx_lane.specs.BitLaws.{lanes_of-transitions, bit_and_below}
use Rattle.rx_lane.proofs.lanes.Lanes.transitions.Goals as goal

pub invariant_of-result : goal.invariant_of-result
invariant_of-result c = bit_and_below _ _ c.self.invariant

pub returns : goal.returns
returns c = lanes_of-transitions c.self.inside.bits ∙ ap transitions c.self.view_is
