use Rattle.std.proofs.Common.{◌<◌, ap, arith, length}
use Rattle.rx_ctx.specs.Contexts.{values_at}
use Rattle.rx_ctx.proofs.Stacks.{in_range, stack_of-pushed}
use Rattle.rx_ctx.proofs.Others.{kept_few, kept_one, kept_pushed, kept_range}
use Rattle.rx_ctx.proofs.stack.ContextStack.push.Goals as goal

pub index-value-requires : goal.index-value-requires
index-value-requires c = omega (arith, in_range c.self.inside.values.items _ _ c.args.self.now c.args.context c.self.view_is c.requires)

pub index-other-requires : goal.index-other-requires
index-other-requires c =
    omega (arith, kept_range _ _ _ _ c.args.context c.self.invariant (in_range c.self.inside.values.items _ _ c.args.self.now c.args.context c.self.view_is c.requires))

pub index_mut-requires : goal.index_mut-requires
index_mut-requires c = omega (arith, in_range c.self.inside.values.items _ _ c.args.self.now c.args.context c.self.view_is c.requires)

pub index_mut-requires-2 : goal.index_mut-requires-2
index_mut-requires-2 c =
    omega (arith, kept_range _ _ _ _ c.args.context c.self.invariant (in_range c.self.inside.values.items _ _ c.args.self.now c.args.context c.self.view_is c.requires))

pub counted-self-inside-requires-clause-few : goal.counted-self-inside-requires-clause-few
counted-self-inside-requires-clause-few c = omega (arith, kept_few _ _ _ _ c.self.invariant, c.self.inside.others.small)

pub counted-self-inside-requires-clause-one : goal.counted-self-inside-requires-clause-one
counted-self-inside-requires-clause-one c =
    kept_one _ _ _ _ c.args.context c.index-other.result.now c.self.invariant
    (kept_range _ _ _ _ c.args.context c.self.invariant (in_range c.self.inside.values.items _ _ c.args.self.now c.args.context c.self.view_is c.requires)) c.index-other.ensures

pub invariant_of-self-2 : goal.invariant_of-self-2
invariant_of-self-2 c =
    kept_pushed c.self.inside.values.items c.self.inside.others.items c.self.inside.hidden.items c.push.new.self.items c.self.inside.other_count c.counted-self-inside.result c.args.context c.args.given
    c.index-value.result.now c.args.moves c.index-other.result.now
    (in_range _ _ _ c.args.self.now c.args.context c.self.view_is c.requires)
    c.self.invariant c.index-other.ensures c.in_ok-push.ensures.items c.counted-self-inside.ensures

pub returns-clause-ok : goal.returns-clause-ok
returns-clause-ok c =
    let lt : c.args.context < length c.self.inside.values.items = in_range _ _ _ c.args.self.now c.args.context c.self.view_is c.requires in
    stack_of-pushed c.self.inside.values.items c.self.inside.others.items c.self.inside.hidden.items c.push.new.self.items c.args.self.now c.args.context c.args.given c.index-value.result.now c.args.moves
    c.index-other.result.now lt (kept_range _ _ _ _ c.args.context c.self.invariant lt) c.index-value.ensures c.index-other.ensures c.in_ok-push.ensures.items c.self.view_is

pub returns-clause-values : goal.returns-clause-values
returns-clause-values c = ap values_at (returns-clause-ok c)
