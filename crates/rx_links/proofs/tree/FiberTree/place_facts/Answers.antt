use Rattle.rx_links.proofs.Computed.{opened, fitting}
use Rattle.rx_links.proofs.Placed.{is-at}
use Rattle.rx_links.proofs.tree.FiberTree.place_facts.Goals as goal

pub returns : goal.returns
returns g c k p v o ks rs e = is-at c.args.self.now (fitting _ _ (opened _ _ c.self.view_is c.self.invariant)) k p v o ks rs e
