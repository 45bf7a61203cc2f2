use Rattle.std.proofs.Common.{◌∙◌, ap}
use Rattle.rx_lane.specs.Lanes.{is_empty}
use Rattle.rx_lane.specs.BitLaws.{is_empty-lanes_of}
use Rattle.rx_lane.proofs.lanes.Lanes.is_none.Goals as goal

pub returns : goal.returns
returns c = is_empty-lanes_of c.self.inside.bits c.self.invariant ∙ ap is_empty c.self.view_is
