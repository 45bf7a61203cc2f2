use Rattle.std.proofs.Common.{nat_eq, sym, ◌∙◌}
use Rattle.rx_host_ops.proofs.Finding.{found_is, found_nowhere, lent_is}
use Rattle.rx_host_ops.proofs.known.Known.find.Goals as goal

pub returns-in-Some : goal.returns-in-Some
returns-in-Some c =
    lent_is c.args.self.now.hosts.now c.in-Some.place c.get-in-Some.result c.get-in-Some.ensures.lookup
    ∙ found_is (λ h. nat_eq h.number c.args.number) c.args.self.now.hosts.now c.in-Some.place (sym (c.requires.at c.args.number) ∙ sym c.get.ensures ∙ c.in-Some.is)

pub returns-in-None : goal.returns-in-None
returns-in-None c = sym (found_nowhere (λ h. nat_eq h.number c.args.number) 0 c.args.self.now.hosts.now (sym (c.requires.at c.args.number) ∙ sym c.get.ensures ∙ c.in-None.is))
