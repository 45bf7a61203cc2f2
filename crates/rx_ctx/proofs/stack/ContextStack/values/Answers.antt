use Rattle.std.proofs.Common.{◌∙◌}
use Rattle.rx_ctx.proofs.Stacks.{all-values_at}
use Rattle.rx_ctx.proofs.stack.ContextStack.values.Goals as goal

pub returns : goal.returns
returns c = c.deref.ensures.value ∙ all-values_at _ _ _ c.args.self.now c.self.view_is
