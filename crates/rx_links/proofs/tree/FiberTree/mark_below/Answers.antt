use Rattle.rx_links.proofs.Computed.{opened, sound, shown, held-live}
use Rattle.rx_links.proofs.Mapped.{below-can, below-shows}
use Rattle.rx_links.proofs.Reading.{current-child}
use Rattle.rx_links.proofs.tree.FiberTree.mark_below.Goals as goal

pub child_of-kids-requires : goal.child_of-kids-requires
child_of-kids-requires g c = let h = opened _ c.args.self.now c.self.view_is c.self.invariant in held-live _ _ _ h.stands c.args.id c.requires

pub mark_list-requires : goal.mark_list-requires
mark_list-requires g c =
    let h = opened (record { nodes = c.self.inside.nodes; current = c.self.inside.current; draft = c.self.inside.draft }) c.args.self.now c.self.view_is c.self.invariant in
    below-can _ _ h c.args.id c.requires _ (current-child _ _ h _ _ c.child_of-kids.ensures c.requires)

pub invariant_of-self : goal.invariant_of-self
invariant_of-self g c =
    let h = opened (record { nodes = c.self.inside.nodes; current = c.self.inside.current; draft = c.self.inside.draft }) c.args.self.now c.self.view_is c.self.invariant in
    sound _ _ (below-shows _ _ h c.args.id c.requires _ (current-child _ _ h _ _ c.child_of-kids.ensures c.requires) _ _ c.mark_list.ensures)

pub returns : goal.returns
returns g c =
    let h = opened (record { nodes = c.self.inside.nodes; current = c.self.inside.current; draft = c.self.inside.draft }) c.args.self.now c.self.view_is c.self.invariant in
    shown _ _ (below-shows _ _ h c.args.id c.requires _ (current-child _ _ h _ _ c.child_of-kids.ensures c.requires) _ _ c.mark_list.ensures)
