use Rattle.rx_links.proofs.Computed.{opened, sound, shown}
use Rattle.rx_links.proofs.Swapping.{swap-can, swap-ready, swapped-shows}
use Rattle.rx_links.proofs.tree.FiberTree.swap.Goals as goal

pub adopt-requires : goal.adopt-requires
adopt-requires g c =
    swap-can (record { nodes = c.self.inside.nodes; current = c.self.inside.current; draft = c.self.inside.draft }) c.args.self.now (opened _ c.args.self.now c.self.view_is c.self.invariant)

pub release_list-requires : goal.release_list-requires
release_list-requires g c =
    swap-ready (record { nodes = c.self.inside.nodes; current = c.self.inside.current; draft = c.self.inside.draft }) c.args.self.now (opened _ c.args.self.now c.self.view_is c.self.invariant) _ c.adopt.ensures

pub invariant_of-self : goal.invariant_of-self
invariant_of-self g c =
    sound _ _
    (swapped-shows (record { nodes = c.self.inside.nodes; current = c.self.inside.current; draft = c.self.inside.draft }) c.args.self.now (opened _ c.args.self.now c.self.view_is c.self.invariant) _ c.adopt.ensures _ c.release_list.ensures)

pub returns : goal.returns
returns g c =
    shown _ _
    (swapped-shows (record { nodes = c.self.inside.nodes; current = c.self.inside.current; draft = c.self.inside.draft }) c.args.self.now (opened _ c.args.self.now c.self.view_is c.self.invariant) _ c.adopt.ensures _ c.release_list.ensures)
