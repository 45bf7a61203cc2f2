use Rattle.std.specs.Prelude.{ℕ, List, Option}
use Rattle.std.proofs.Common.{sym, subst}
use Rattle.std.proofs.lemmas.Result.{on_ok_weaker, on_err_weaker}
use Rattle.rx_hooks.specs.declared.hook.Hook.{Hook}
use Rattle.rx_model.specs.HooksOf.{KeepsAllHooks}
use Rattle.rx_render.proofs.settle.settle_finished.Goals as goal

pub returns-clause-settled : goal.returns-clause-settled
returns-clause-settled c =
    on_ok_weaker c.settle_whole.result (λ told s g x h beside. told s g x (rw (c.in_ok-settle_hooks.ensures.left c.if-branch.false) h)) c.settle_whole.ensures.settled

pub returns-clause-err : goal.returns-clause-err
returns-clause-err c =
    on_err_weaker c.settle_whole.result
    (λ told s done keeps. told s done (subst (λ (k : ℕ → Option (List Hook)). KeepsAllHooks c.args.checked.now s k) (sym (c.in_ok-settle_hooks.ensures.left c.if-branch.false)) keeps))
    c.settle_whole.ensures.err
