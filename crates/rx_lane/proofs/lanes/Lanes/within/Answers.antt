use Rattle.std.proofs.Common.{◌∙◌, ap, sym}
use Rattle.rx_lane.specs.LaneBits.{lanes_of}
use Rattle.rx_lane.specs.Lanes.{within, is_empty}
use Rattle.rx_lane.specs.BitLaws.{lanes_of-minus, is_empty-lanes_of, within-lanes_of, bit_and_below}
use Rattle.rx_lane.proofs.lanes.Lanes.within.Goals as goal

pub returns : goal.returns
returns c =
    is_empty-lanes_of _ (bit_and_below _ _ c.self.invariant) ∙ ap is_empty (lanes_of-minus c.self.inside.bits c.other.inside.bits c.other.invariant)
    ∙ sym (within-lanes_of c.self.inside.bits (lanes_of c.other.inside.bits))
    ∙ ap (λ s. within s (lanes_of c.other.inside.bits)) c.self.view_is
    ∙ ap (within c.args.self) c.other.view_is
