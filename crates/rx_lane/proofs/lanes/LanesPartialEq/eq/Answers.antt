use Rattle.std.proofs.Common.{◌≡◌, ◌∙◌, ap, nat_eq, sym, ℕ, ◌<◌, ◌^◌}
use Rattle.rx_lane.specs.Lanes.{Lanes}
use Rattle.rx_lane.specs.LaneBits.{lanes_of, bits_of}
use Rattle.rx_lane.specs.BitLaws.{bits_of-lanes_of}
use Rattle.rx_lane.proofs.lanes.LanesPartialEq.eq.Goals as goal

back : (bits : ℕ) (lanes : Lanes) → bits < 2 ^ 20 → lanes_of bits ≡ lanes → bits ≡ bits_of lanes
back bits lanes h e = sym (bits_of-lanes_of bits h) ∙ ap bits_of e

pub returns : goal.returns
returns c =
    c.eq.ensures
    ∙ ap (λ n. nat_eq n c.t2-1.inside.bits) (back _ _ c.t1-1.invariant c.t1-1.view_is)
    ∙ ap (nat_eq (bits_of c.args.self.now)) (back _ _ c.t2-1.invariant c.t2-1.view_is)
