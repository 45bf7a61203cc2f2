use Rattle.rx_links.proofs.Computed.{opened, sound, shown, made-live}
use Rattle.rx_links.proofs.Dropping.{drop-ready, dropped-live, dropped-shows}
use Rattle.rx_links.proofs.tree.FiberTree.drop_children.Goals as goal

pub own_children-kids-requires : goal.own_children-kids-requires
own_children-kids-requires g c =
    let h = opened _ c.args.self.now c.self.view_is c.self.invariant in made-live _ _ _ h.stands c.args.id c.requires

pub release_list-requires : goal.release_list-requires
release_list-requires g c =
    let h = opened (record { nodes = c.self.inside.nodes; current = c.self.inside.current; draft = c.self.inside.draft }) c.args.self.now c.self.view_is c.self.invariant in
    rw c.own_children-kids.ensures (drop-ready _ _ c.args.id h c.requires)

pub link_child-requires : goal.link_child-requires
link_child-requires g c =
    let h = opened (record { nodes = c.self.inside.nodes; current = c.self.inside.current; draft = c.self.inside.draft }) c.args.self.now c.self.view_is c.self.invariant in
    dropped-live _ _ c.args.id h c.requires _ (rw c.own_children-kids.ensures at c.release_list.ensures)

pub invariant_of-self : goal.invariant_of-self
invariant_of-self g c =
    let h = opened (record { nodes = c.self.inside.nodes; current = c.self.inside.current; draft = c.self.inside.draft }) c.args.self.now c.self.view_is c.self.invariant in
    sound _ _ (dropped-shows _ _ c.args.id h c.requires _ _ (rw c.own_children-kids.ensures at c.release_list.ensures) c.link_child.ensures)

pub returns : goal.returns
returns g c =
    let h = opened (record { nodes = c.self.inside.nodes; current = c.self.inside.current; draft = c.self.inside.draft }) c.args.self.now c.self.view_is c.self.invariant in
    shown _ _ (dropped-shows _ _ c.args.id h c.requires _ _ (rw c.own_children-kids.ensures at c.release_list.ensures) c.link_child.ensures)
