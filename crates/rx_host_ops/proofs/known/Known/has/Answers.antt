use Rattle.std.proofs.Common.{is_some, nat_eq, ap, ◌∙◌}
use Rattle.rx_host_ops.proofs.Finding.{is_some-position_from}
use Rattle.rx_host_ops.proofs.known.Known.has.Goals as goal

pub returns : goal.returns
returns c =
    c.is_some.ensures
    ∙ ap is_some (c.get.ensures ∙ c.requires.at c.args.number)
    ∙ is_some-position_from (λ h. nat_eq h.number c.args.number) 0 c.args.self.now.hosts.now
