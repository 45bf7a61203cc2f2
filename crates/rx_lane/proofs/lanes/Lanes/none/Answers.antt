use Rattle.rx_lane.specs.BitLaws.{lanes_of-zero}
use Rattle.rx_lane.proofs.lanes.Lanes.none.Goals as goal

pub returns : goal.returns
returns c = lanes_of-zero
