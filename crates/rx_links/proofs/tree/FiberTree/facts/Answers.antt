use Rattle.rx_links.proofs.Computed.{opened, fitting}
use Rattle.rx_links.proofs.Linked.{linked}
use Rattle.rx_links.proofs.Unused.{bare-unused, kid-unused}
use Rattle.rx_links.proofs.tree.FiberTree.facts.Goals as goal

pub returns-clause-fits : goal.returns-clause-fits
returns-clause-fits g c = fitting _ _ (opened _ _ c.self.view_is c.self.invariant)

pub returns-clause-bare : goal.returns-clause-bare
returns-clause-bare g c p j b t = bare-unused c.args.self.now p j (fitting _ _ (opened _ _ c.self.view_is c.self.invariant)) b t

pub returns-clause-unused : goal.returns-clause-unused
returns-clause-unused g c p j b t = kid-unused c.args.self.now p j (fitting _ _ (opened _ _ c.self.view_is c.self.invariant)) b t

pub returns-clause-linked : goal.returns-clause-linked
returns-clause-linked g c = let h = opened _ _ c.self.view_is c.self.invariant in linked _ h.stands.once
