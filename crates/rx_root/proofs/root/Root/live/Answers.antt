use Rattle.std.proofs.Common.{subst}
use Rattle.rx_root.specs.Rooted.{Rooted}
use Rattle.rx_root.proofs.Live.{few, FewAtRest, FewRendered}
use Rattle.rx_root.proofs.root.Root.live.Goals as goal

pub returns-clause-few : goal.returns-clause-few
returns-clause-few c s h =
    few c.args.self.now.rendering.program c.args.self.now c.live.result
    (subst (λ (v : Rooted). FewRendered v.rendering.program v.rendering c.live.result) c.self.view_is c.live.ensures.few)
    (subst (λ (v : Rooted). FewAtRest v.rendering.program v.rendering c.live.result) c.self.view_is c.live.ensures.idle) s h
