use Rattle.std.proofs.Common.{sym, subst, ◌∙◌}
use Rattle.rx_node.specs.MarkView.{instance_seen, mark_seen}
use Rattle.rx_hook_store.specs.Store.{kept_hooks}
use Rattle.rx_causes.specs.Idle.{HasCause, HasNoCause, works}
use Rattle.rx_causes.proofs.Causes.{no_work}
use Rattle.rx_causes.proofs.idle.mark_has_cause.Goals as goal

pub returns-in-Some-clause-none : goal.returns-in-Some-clause-none
returns-in-Some-clause-none c free =
    subst (λ m. HasNoCause (kept_hooks c.args.hooks.now) c.args.scene.now.lanes c.args.scene.now.cut (mark_seen m)) (sym c.in-Instance.is)
    (no_work (kept_hooks c.args.hooks.now) c.args.scene.now.lanes c.args.scene.now.cut (instance_seen c.in-Instance.instance) c.in-Some.number c.in-Some.is
    (λ answers hooks histories have stand. sym free ∙ c.has_work.ensures.work answers hooks histories have stand)
    (λ s initials lanes_are cut_is gives. c.has_work.ensures.calm s initials lanes_are cut_is gives free))

pub returns-in-Some-clause-some : goal.returns-in-Some-clause-some
returns-in-Some-clause-some c busy =
    subst (λ m. HasCause (kept_hooks c.args.hooks.now) c.args.scene.now.lanes c.args.scene.now.cut (mark_seen m)) (sym c.in-Instance.is)
    (works c.in-Some.number c.in-Some.is (λ answers hooks histories have stand. sym (c.has_work.ensures.work answers hooks histories have stand) ∙ busy))
