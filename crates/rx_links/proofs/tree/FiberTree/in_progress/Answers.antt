use Rattle.rx_links.proofs.Computed.{opened}
use Rattle.rx_links.proofs.tree.FiberTree.in_progress.Goals as goal

pub returns : goal.returns
returns g c =
    let h = opened (record { nodes = c.self.inside.nodes; current = c.self.inside.current; draft = c.self.inside.draft }) _ c.self.view_is c.self.invariant in
    h.stands.leads_draft
