use Rattle.std.proofs.Common.{◌∙◌, ap}
use Rattle.rx_lane.specs.LaneBits.{lanes_of}
use Rattle.rx_lane.specs.Lanes.{intersection}
use Rattle.rx_lane.specs.BitLaws.{lanes_of-bit_and, bit_and_below}
use Rattle.rx_lane.proofs.lanes.Lanes.intersection.Goals as goal

pub invariant_of-result : goal.invariant_of-result
invariant_of-result c = bit_and_below _ _ c.self.invariant

pub returns : goal.returns
returns c =
    lanes_of-bit_and c.self.inside.bits c.other.inside.bits
    ∙ ap (λ s. intersection s (lanes_of c.other.inside.bits)) c.self.view_is
    ∙ ap (intersection c.args.self) c.other.view_is
