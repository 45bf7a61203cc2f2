use Rattle.std.proofs.Common.{◌∙◌, ap, ◌/◌, ◌^◌, nat_eq, bit_and}
use Rattle.rx_lane.specs.Lanes.{has}
use Rattle.rx_lane.specs.BitLaws.{has_by_shift}
use Rattle.rx_lane.proofs.lanes.Lanes.has.Goals as goal

pub returns : goal.returns
returns c =
    ap (λ p. nat_eq (bit_and (c.self.inside.bits / 2 ^ p) 1) 1) c.priority.ensures
    ∙ has_by_shift _ c.args.lane
    ∙ ap (λ s. has s c.args.lane) c.self.view_is
