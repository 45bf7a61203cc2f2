use Rattle.std.proofs.Common.{◌∙◌, ap}
use Rattle.rx_lane.specs.LaneBits.{lanes_of}
use Rattle.rx_lane.specs.Lanes.{union}
use Rattle.rx_lane.specs.BitLaws.{lanes_of-bit_or, bit_or_below}
use Rattle.rx_lane.proofs.lanes.Lanes.union.Goals as goal

pub invariant_of-result : goal.invariant_of-result
invariant_of-result c = bit_or_below _ _ c.self.invariant c.other.invariant

pub returns : goal.returns
returns c =
    lanes_of-bit_or c.self.inside.bits c.other.inside.bits
    ∙ ap (λ s. union s (lanes_of c.other.inside.bits)) c.self.view_is
    ∙ ap (union c.args.self) c.other.view_is
