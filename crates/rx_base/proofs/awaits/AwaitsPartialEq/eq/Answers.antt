use Rattle.std.proofs.Common.{◌≡◌, ◌∙◌, ap, nat_eq, sym, ℕ, ◌<◌, ◌^◌}
use Rattle.rx_base.specs.Awaits.{Awaits}
use Rattle.rx_base.specs.AwaitsBits.{awaits_of, bits_of}
use Rattle.rx_base.specs.AwaitsLaws.{bits_of-awaits_of}
use Rattle.rx_base.proofs.awaits.AwaitsPartialEq.eq.Goals as goal

back : (bits : ℕ) (waits : Awaits) → bits < 2 ^ 64 → awaits_of bits ≡ waits → bits ≡ bits_of waits
back bits waits h e = sym (bits_of-awaits_of bits h) ∙ ap bits_of e

pub returns : goal.returns
returns c =
    c.eq.ensures
    ∙ ap (λ n. nat_eq n c.t2-1.inside.bits) (back _ _ c.t1-1.invariant c.t1-1.view_is)
    ∙ ap (nat_eq (bits_of c.args.self.now)) (back _ _ c.t2-1.invariant c.t2-1.view_is)
