use Rattle.std.proofs.Common.{subst, sym}
use Rattle.rx_queue.specs.Stands.{StandsFor}
use Rattle.rx_hooks.specs.declared.hook.Hook.{Hook}
use Rattle.rx_hooks.proofs.Lists.{stand-at}
use Rattle.rx_hooks.proofs.hooks.Hooks.committed.Goals as goal

pub returns : goal.returns
returns c answers histories history stand at =
    let here = stand-at answers c.self.inside.hooks.items histories c.args.hook c.index-hook.result.now history (rw c.self.view_is stand) at in
    c.committed.ensures.value answers history.updates (subst (λ (k : Hook). StandsFor answers k.queue history.updates) (sym c.index-hook.ensures) here.queue_is)
