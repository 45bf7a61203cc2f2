use Rattle.rx_links.proofs.Computed.{opened}
use Rattle.rx_links.proofs.Reading.{in-live, current-parent, made-parent}
use Rattle.rx_links.proofs.tree.FiberTree.parent.Goals as goal

pub return_of-requires : goal.return_of-requires
return_of-requires g c = in-live _ _ (opened _ _ c.self.view_is c.self.invariant) _ c.requires

pub returns-clause-current : goal.returns-clause-current
returns-clause-current g c m = current-parent _ _ (opened _ _ c.self.view_is c.self.invariant) _ _ c.return_of.ensures m

pub returns-clause-made : goal.returns-clause-made
returns-clause-made g c m = made-parent _ _ (opened _ _ c.self.view_is c.self.invariant) _ _ c.return_of.ensures m
