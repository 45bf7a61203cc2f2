use Rattle.rx_links.proofs.Computed.{sound, shown}
use Rattle.rx_links.proofs.Writes.{empty-shows}
use Rattle.rx_links.proofs.tree.FiberTree.new.Goals as goal

pub invariant_of-result : goal.invariant_of-result
invariant_of-result g c = sound _ _ (empty-shows _ c.new.ensures.empty c.new.ensures.live)

pub returns : goal.returns
returns g c = shown _ _ (empty-shows _ c.new.ensures.empty c.new.ensures.live)
