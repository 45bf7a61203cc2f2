use Rattle.rx_links.proofs.Computed.{opened, sound, shown, held-live}
use Rattle.rx_links.proofs.Mapped.{changed-shows}
use Rattle.rx_links.proofs.tree.FiberTree.mark_current.Goals as goal

pub mark_one-requires : goal.mark_one-requires
mark_one-requires g c = let h = opened _ c.args.self.now c.self.view_is c.self.invariant in held-live _ _ _ h.stands c.args.id c.requires

pub invariant_of-self : goal.invariant_of-self
invariant_of-self g c = let h = opened _ c.args.self.now c.self.view_is c.self.invariant in sound _ _ (changed-shows _ c.args.self.now h c.args.id c.requires _ _ c.mark_one.ensures)

pub returns : goal.returns
returns g c = let h = opened _ c.args.self.now c.self.view_is c.self.invariant in shown _ _ (changed-shows _ c.args.self.now h c.args.id c.requires _ _ c.mark_one.ensures)
