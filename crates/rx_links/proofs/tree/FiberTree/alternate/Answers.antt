use Rattle.rx_links.proofs.Computed.{opened}
use Rattle.rx_links.proofs.Reading.{in-live, current-clone, made-old}
use Rattle.rx_links.proofs.tree.FiberTree.alternate.Goals as goal

pub alternate_of-requires : goal.alternate_of-requires
alternate_of-requires g c = in-live _ _ (opened _ _ c.self.view_is c.self.invariant) _ c.requires

pub returns-clause-current : goal.returns-clause-current
returns-clause-current g c m = current-clone _ _ (opened _ _ c.self.view_is c.self.invariant) _ _ c.alternate_of.ensures.value m

pub returns-clause-made : goal.returns-clause-made
returns-clause-made g c m = made-old _ _ (opened _ _ c.self.view_is c.self.invariant) _ _ c.alternate_of.ensures.value m
