use Rattle.rx_links.proofs.Computed.{opened}
use Rattle.rx_links.proofs.Reading.{in-live, current-sibling, made-sibling}
use Rattle.rx_links.proofs.tree.FiberTree.next_sibling.Goals as goal

pub sibling_of-requires : goal.sibling_of-requires
sibling_of-requires g c = in-live _ _ (opened _ _ c.self.view_is c.self.invariant) _ c.requires

pub returns-clause-current : goal.returns-clause-current
returns-clause-current g c m = current-sibling _ _ (opened _ _ c.self.view_is c.self.invariant) _ _ c.sibling_of.ensures m

pub returns-clause-made : goal.returns-clause-made
returns-clause-made g c m = made-sibling _ _ (opened _ _ c.self.view_is c.self.invariant) _ _ c.sibling_of.ensures m
