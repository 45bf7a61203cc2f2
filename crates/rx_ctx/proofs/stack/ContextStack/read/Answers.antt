use Rattle.std.proofs.Common.{arith}
use Rattle.rx_ctx.proofs.Stacks.{in_range, read-value_at}
use Rattle.rx_ctx.proofs.stack.ContextStack.read.Goals as goal

pub index-requires : goal.index-requires
index-requires c = omega (arith, in_range c.self.inside.values.items _ _ c.args.self.now c.args.context c.self.view_is c.requires)

pub returns : goal.returns
returns c =
    read-value_at _ _ _ c.args.self.now c.args.context _ c.self.view_is
    (in_range _ _ _ c.args.self.now c.args.context c.self.view_is c.requires)
    c.index.ensures
