use Rattle.std.proofs.Common.{◌∙◌}
use Rattle.rx_links.specs.Drafts.{IsEmpty}
use Rattle.rx_links.proofs.Computed.{opened, sound, shown, made-live}
use Rattle.rx_links.proofs.Edits.{has-makes}
use Rattle.rx_links.proofs.Writes.{over-shows, old_link}
use Rattle.rx_links.proofs.tree.FiberTree.take_over.Goals as goal

pub old_children-kids-requires : goal.old_children-kids-requires
old_children-kids-requires g c =
    let h = opened _ c.args.self.now c.self.view_is c.self.invariant in made-live _ _ _ h.stands c.args.id (has-makes IsEmpty _ _ c.requires)

pub link_child-requires : goal.link_child-requires
link_child-requires g c =
    let h = opened _ c.args.self.now c.self.view_is c.self.invariant in made-live _ _ _ h.stands c.args.id (has-makes IsEmpty _ _ c.requires)

pub invariant_of-self : goal.invariant_of-self
invariant_of-self g c =
    let h = opened _ c.args.self.now c.self.view_is c.self.invariant in
    sound _ _ (over-shows _ _ _ _ h c.requires (rw (c.old_children-kids.ensures ∙ old_link _ _ _ h (has-makes IsEmpty _ _ c.requires)) at c.link_child.ensures))

pub returns : goal.returns
returns g c =
    let h = opened _ c.args.self.now c.self.view_is c.self.invariant in
    shown _ _ (over-shows _ _ _ _ h c.requires (rw (c.old_children-kids.ensures ∙ old_link _ _ _ h (has-makes IsEmpty _ _ c.requires)) at c.link_child.ensures))
