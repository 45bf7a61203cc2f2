use Rattle.rx_links.proofs.Computed.{opened, sound, shown, made-live}
use Rattle.rx_links.proofs.Writes.{value-shows}
use Rattle.rx_links.proofs.tree.FiberTree.give.Goals as goal

pub give_one-requires : goal.give_one-requires
give_one-requires g c = let h = opened _ c.args.self.now c.self.view_is c.self.invariant in made-live _ _ _ h.stands c.args.id c.requires

pub invariant_of-self : goal.invariant_of-self
invariant_of-self g c = let h = opened _ c.args.self.now c.self.view_is c.self.invariant in sound _ _ (value-shows c.args.id _ _ c.args.self.now _ h c.requires c.give_one.ensures)

pub returns : goal.returns
returns g c = let h = opened _ c.args.self.now c.self.view_is c.self.invariant in shown _ _ (value-shows c.args.id _ _ c.args.self.now _ h c.requires c.give_one.ensures)
