use Rattle.std.proofs.Common.{refl, arith}
use Rattle.rx_order.proofs.Finishing.{finishes-after, few-after}
use Rattle.rx_order.proofs.order.finish.Goals as goal

pub returns : goal.returns
returns c =
    λ h. record {
      finishes_all = finishes-after c.args.graph.now _ _ c.args.number h.finishes_all (c.if-not-is_ready.ensures refl) c.in_ok-push.ensures;
      few = few-after _ _ c.args.number _ (omega arith) c.in_ok-push.ensures;
    }
