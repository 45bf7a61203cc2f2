use Rattle.rx_links.proofs.Computed.{opened, sound, shown}
use Rattle.rx_links.proofs.Mapped.{mark-way, marked-shows}
use Rattle.rx_links.proofs.tree.FiberTree.mark.Goals as goal

pub mark_up-requires : goal.mark_up-requires
mark_up-requires g c =
    mark-way (record { nodes = c.self.inside.nodes; current = c.self.inside.current; draft = c.self.inside.draft }) c.args.self.now (opened _ c.args.self.now c.self.view_is c.self.invariant) c.args.id c.requires

pub invariant_of-self : goal.invariant_of-self
invariant_of-self g c =
    sound _ _
    (marked-shows (record { nodes = c.self.inside.nodes; current = c.self.inside.current; draft = c.self.inside.draft }) c.args.self.now (opened _ c.args.self.now c.self.view_is c.self.invariant) c.args.id c.requires _ _ c.mark_up.ensures)

pub returns : goal.returns
returns g c =
    shown _ _
    (marked-shows (record { nodes = c.self.inside.nodes; current = c.self.inside.current; draft = c.self.inside.draft }) c.args.self.now (opened _ c.args.self.now c.self.view_is c.self.invariant) c.args.id c.requires _ _ c.mark_up.ensures)
