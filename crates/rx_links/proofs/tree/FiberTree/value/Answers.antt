use Rattle.rx_links.proofs.Computed.{opened}
use Rattle.rx_links.proofs.Reading.{in-live, current-value, made-value}
use Rattle.rx_links.proofs.tree.FiberTree.value.Goals as goal

pub get-requires : goal.get-requires
get-requires g c = in-live _ _ (opened _ _ c.self.view_is c.self.invariant) _ c.requires

pub returns-clause-current : goal.returns-clause-current
returns-clause-current g c m = current-value _ _ (opened _ _ c.self.view_is c.self.invariant) _ _ c.get.ensures m

pub returns-clause-made : goal.returns-clause-made
returns-clause-made g c m = made-value _ _ (opened _ _ c.self.view_is c.self.invariant) _ _ c.get.ensures m
