use Rattle.std.proofs.Common.{ap, length, sym}
use Rattle.rx_ctx.proofs.Others.{kept_first}
use Rattle.rx_ctx.proofs.stack.ContextStack.new.Goals as goal

pub invariant_of-result : goal.invariant_of-result
invariant_of-result c =
    kept_first c.in_ok-values.values.items c.in_ok-vec.field-0.items c.new.result.items (length c.args.defaults.now) (sym (ap length c.in_ok-values.ensures.items)) (c.in_ok-vec.ensures.items_if_clones_equal (λ y h. h))
    c.new.ensures.items
