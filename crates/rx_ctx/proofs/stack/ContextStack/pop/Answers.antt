use Rattle.std.proofs.Common.{arith}
use Rattle.rx_ctx.proofs.Others.{kept_few, kept_one, kept_popped, popped_range}
use Rattle.rx_ctx.proofs.stack.ContextStack.pop.Goals as goal

pub counted-self-inside-requires-clause-few : goal.counted-self-inside-requires-clause-few
counted-self-inside-requires-clause-few c = omega (arith, kept_few _ _ _ _ c.self.invariant, c.self.inside.others.small)

pub counted-self-inside-requires-clause-one : goal.counted-self-inside-requires-clause-one
counted-self-inside-requires-clause-one c =
    kept_one _ _ _ _ c.in_ok-hidden.hidden.context c.index-other.result.now c.self.invariant
    (popped_range _ _ c.pop.new.self.items _ c.in_ok-hidden.hidden _ c.self.invariant c.in_ok-hidden.ensures.items) c.index-other.ensures

pub invariant_of-self-2 : goal.invariant_of-self-2
invariant_of-self-2 c =
    kept_popped _ _ c.pop.new.self.items _ c.in_ok-hidden.hidden _ _ c.index-other.result.now c.self.invariant c.in_ok-hidden.ensures.items c.index-other.ensures c.counted-self-inside.ensures
