use Rattle.std.proofs.Common.{subst, sym, IsSome}
use Rattle.rx_meaning.specs.Expressions.{answers_of}
use Rattle.rx_hook_store.specs.Store.{kept_hooks}
use Rattle.rx_fresh.proofs.Going.{one_goes, render_there}
use Rattle.rx_fresh.proofs.body.numbered_values.Goals as goal

pub returns-clause-goes : goal.returns-clause-goes
returns-clause-goes c =
    one_goes c.args.shot.now.checked.now c.new-fold.result c.args.shot.now.lanes c.args.shot.now.cut (kept_hooks c.args.hooks.now) (kept_hooks c.render_values.new.self) c.new-fold.ensures
    (render_there (answers_of c.new-fold.result) c.args.shot.now.lanes c.args.shot.now.cut c.args.number (kept_hooks c.args.hooks.now) (kept_hooks c.render_values.new.self) c.in_ok-values.ensures.ok)
    (λ s k initials a l e h. c.render_values.ensures.still s k initials a l e h) (λ q st a done h. c.render_values.ensures.states q st a done h)

pub returns-in_err-values-clause-goes : goal.returns-in_err-values-clause-goes
returns-in_err-values-clause-goes c =
    one_goes c.args.shot.now.checked.now c.new-fold.result c.args.shot.now.lanes c.args.shot.now.cut (kept_hooks c.args.hooks.now) (kept_hooks c.render_values.new.self) c.new-fold.ensures
    (λ n h. subst IsSome (sym (c.in_err-values.ensures.err n)) h) (λ s k initials a l e h. c.render_values.ensures.still s k initials a l e h)
    (λ q st a done h. c.render_values.ensures.states q st a done h)
