use Rattle.std.proofs.Common.{ap, subst}
use Rattle.rx_meaning.specs.Expressions.{answers_of}
use Rattle.rx_hook_store.specs.Rendered.{RendersHooks}
use Rattle.rx_hook_store.specs.Store.{kept_hooks}
use Rattle.rx_settle.proofs.Again.{rendered_keeps_on}
use Rattle.rx_settle.proofs.rendering.render_one.Goals as goal

pub returns-in_ok-_values-clause-keeps : goal.returns-in_ok-_values-clause-keeps
returns-in_ok-_values-clause-keeps c =
    rendered_keeps_on c.args.checked.now c.args.lanes c.args.cut c.number-number.result (kept_hooks c.args.store.now) (kept_hooks c.render_values.new.self)
    (subst (λ q. RendersHooks (answers_of q) c.args.lanes c.args.cut c.number-number.result (kept_hooks c.args.store.now) (kept_hooks c.render_values.new.self)) c.new-fold.ensures
    c.in_ok-_values.ensures.ok)
    (λ s n initials done h. c.render_values.ensures.stays c.args.checked.now s n initials (ap answers_of c.new-fold.ensures) done h)
