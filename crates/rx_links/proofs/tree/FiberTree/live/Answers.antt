use Rattle.std.proofs.Common.{◌∙◌}
use Rattle.rx_links.proofs.Computed.{opened, live-count}
use Rattle.rx_links.proofs.tree.FiberTree.live.Goals as goal

pub returns : goal.returns
returns g c = let h = opened _ _ c.self.view_is c.self.invariant in c.live.ensures ∙ live-count _ _ _ h.stands
