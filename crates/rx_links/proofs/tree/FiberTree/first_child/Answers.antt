use Rattle.rx_links.proofs.Computed.{opened}
use Rattle.rx_links.proofs.Reading.{in-live, current-child, made-child}
use Rattle.rx_links.proofs.tree.FiberTree.first_child.Goals as goal

pub child_of-requires : goal.child_of-requires
child_of-requires g c = in-live _ _ (opened _ _ c.self.view_is c.self.invariant) _ c.requires

pub returns-clause-current : goal.returns-clause-current
returns-clause-current g c m = current-child _ _ (opened _ _ c.self.view_is c.self.invariant) _ _ c.child_of.ensures m

pub returns-clause-made : goal.returns-clause-made
returns-clause-made g c m = made-child _ _ (opened _ _ c.self.view_is c.self.invariant) _ _ c.child_of.ensures m
