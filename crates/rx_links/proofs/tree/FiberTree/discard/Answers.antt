use Rattle.rx_links.proofs.Computed.{opened, sound, shown}
use Rattle.rx_links.proofs.Dropping.{discard-ready, discarded-shows}
use Rattle.rx_links.proofs.tree.FiberTree.discard.Goals as goal

pub release_list-requires : goal.release_list-requires
release_list-requires g c = discard-ready (record { nodes = c.self.inside.nodes; current = c.self.inside.current; draft = c.self.inside.draft }) c.args.self.now (opened _ c.args.self.now c.self.view_is c.self.invariant)

pub invariant_of-self : goal.invariant_of-self
invariant_of-self g c =
    sound _ _ (discarded-shows (record { nodes = c.self.inside.nodes; current = c.self.inside.current; draft = c.self.inside.draft }) c.args.self.now (opened _ c.args.self.now c.self.view_is c.self.invariant) _ c.release_list.ensures)

pub returns : goal.returns
returns g c =
    shown _ _ (discarded-shows (record { nodes = c.self.inside.nodes; current = c.self.inside.current; draft = c.self.inside.draft }) c.args.self.now (opened _ c.args.self.now c.self.view_is c.self.invariant) _ c.release_list.ensures)
