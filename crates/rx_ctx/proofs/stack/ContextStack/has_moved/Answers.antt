use Rattle.std.proofs.Common.{◌∙◌, ap, not}
use Rattle.rx_ctx.specs.Contexts.{moved_at, none_moved}
use Rattle.rx_ctx.proofs.Others.{counts_moved}
use Rattle.rx_ctx.proofs.stack.ContextStack.has_moved.Goals as goal

pub returns : goal.returns
returns c = ap not (counts_moved c.self.inside.others.items _ c.self.inside.other_count c.self.invariant.none c.self.invariant.counted ∙ ap (λ s. none_moved (moved_at s)) c.self.view_is)
