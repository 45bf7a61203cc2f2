use Rattle.rx_arena.proofs.Mutual.{joined-mutual}
use Rattle.rx_arena.proofs.arena.Arena.alloc_linked.Goals as goal

pub invariant_of-self : goal.invariant_of-self
invariant_of-self g c =
    joined-mutual c.args.self.now _ _ c.insert_reserved-key.result _ (rw c.self.view_is at c.self.invariant) (rw c.self.view_is at c.insert_reserved-key.ensures.was_vacant) (rw c.self.view_is at c.insert_reserved-key.ensures.updates) (rw c.of-id.ensures at c.lead_back.ensures) c.requires.old_live c.requires.old_alone
