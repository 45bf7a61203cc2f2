use Rattle.rx_arena.proofs.Mutual.{released, released-mutual}
use Rattle.rx_arena.proofs.arena.Arena.release.Goals as goal

pub invariant_of-self : goal.invariant_of-self
invariant_of-self g c =
    released-mutual _ _ _ c.key.result _ c.self.invariant c.remove-value.ensures.value c.remove-value.ensures.updates c.lead_back.ensures

pub returns : goal.returns
returns g c =
    let r = released _ _ _ c.key.result _ c.self.invariant c.remove-value.ensures.value c.remove-value.ensures.updates c.lead_back.ensures c.remove-value.ensures.len c.remove-value.ensures.capacity in
    rw (c.key.ensures, c.self.view_is) at r
