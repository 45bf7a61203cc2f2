use Rattle.std.proofs.Common.{◌∙◌, ap, sym}
use Rattle.std.specs.Prelude.{not}
use Rattle.rx_lane.specs.LaneBits.{lanes_of}
use Rattle.rx_lane.specs.Lanes.{meets, is_empty}
use Rattle.rx_lane.specs.BitLaws.{lanes_of-bit_and, is_empty-lanes_of, meets-lanes_of, bit_and_below}
use Rattle.rx_lane.proofs.lanes.Lanes.meets.Goals as goal

pub returns : goal.returns
returns c =
    ap not (is_empty-lanes_of _ (bit_and_below _ _ c.self.invariant) ∙ ap is_empty (lanes_of-bit_and c.self.inside.bits c.other.inside.bits))
    ∙ sym (meets-lanes_of c.self.inside.bits (lanes_of c.other.inside.bits))
    ∙ ap (λ s. meets s (lanes_of c.other.inside.bits)) c.self.view_is
    ∙ ap (meets c.args.self) c.other.view_is
