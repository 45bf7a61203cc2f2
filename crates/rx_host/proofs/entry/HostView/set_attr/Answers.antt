use Rattle.rx_host.proofs.Changes.{held-set}
use Rattle.rx_host.proofs.entry.HostView.set_attr.Goals as goal

pub returns-clause-held : goal.returns-clause-held
returns-clause-held c = held-set c.args.self.now c.set.new.self c.args.name c.args.value c.set.ensures.attrs
