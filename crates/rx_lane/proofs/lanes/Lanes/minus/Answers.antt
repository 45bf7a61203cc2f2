use Rattle.std.proofs.Common.{◌∙◌, ap}
use Rattle.rx_lane.specs.LaneBits.{lanes_of}
use Rattle.rx_lane.specs.Lanes.{minus}
use Rattle.rx_lane.specs.BitLaws.{lanes_of-minus, bit_and_below}
use Rattle.rx_lane.proofs.lanes.Lanes.minus.Goals as goal

pub invariant_of-result : goal.invariant_of-result
invariant_of-result c = bit_and_below _ _ c.self.invariant

pub returns : goal.returns
returns c =
    lanes_of-minus c.self.inside.bits c.other.inside.bits c.other.invariant
    ∙ ap (λ s. minus s (lanes_of c.other.inside.bits)) c.self.view_is
    ∙ ap (minus c.args.self) c.other.view_is
