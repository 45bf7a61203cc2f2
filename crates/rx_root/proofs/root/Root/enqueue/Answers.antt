use Rattle.std.proofs.Common.{sym, ◌∙◌, subst}
use Rattle.std.specs.Prelude.{◌↔◌, IsErrOf}
use Rattle.std.proofs.lemmas.Result.{IfOk-weaker}
use Rattle.rx_root.specs.declared.errors.DispatchError.TheVariants.{NoInstance}
use Rattle.rx_root.proofs.Dispatches.{not_no_instance}
use Rattle.rx_root.proofs.Taken.{hook_stands, no_instance_is, some_instance}
use Rattle.rx_root.proofs.root.Root.enqueue.Goals as goal

pub returns-then-is_refresh-clause-no_instance : goal.returns-then-is_refresh-clause-no_instance
returns-then-is_refresh-clause-no_instance c s h =
    let p = c.args.self.now.rendering.program in
    let refresh = sym c.is_refresh.ensures ∙ c.if-is_refresh.true in
    (λ is. absurd (not_no_instance c.refresh_for.result c.refresh_for.ensures.memory is), λ none. absurd (some_instance p s c.args.dispatch.now refresh none))

pub returns-then-is_refresh-clause-same : goal.returns-then-is_refresh-clause-same
returns-then-is_refresh-clause-same c is = absurd (not_no_instance c.refresh_for.result c.refresh_for.ensures.memory is)

pub returns-clause-ok : goal.returns-clause-ok
returns-clause-ok c =
    let hooks = sym c.is_refresh.ensures ∙ c.if-is_refresh.false in
    IfOk-weaker c.send_to.result _ _
    (λ n goes s h. let t = goes s h in (t.0, hook_stands c.args.self.now.rendering.program s c.args.dispatch.now c.send_to.new.self hooks t.1))
    c.send_to.ensures.ok

pub returns-clause-no_instance : goal.returns-clause-no_instance
returns-clause-no_instance c s h =
    let hooks = sym c.is_refresh.ensures ∙ c.if-is_refresh.false in
    subst (λ (A : Type 0). IsErrOf c.send_to.result NoInstance ↔ A) (sym (no_instance_is c.args.self.now.rendering.program s c.args.dispatch.now hooks)) (c.send_to.ensures.no_instance s h)
