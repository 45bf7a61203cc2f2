use Rattle.std.specs.Prelude.{option_map}
use Rattle.std.proofs.Common.{not, ◌&&◌, false, ◌≡◌, refl, sym, ap, subst, ◌∙◌}
use Rattle.rx_meaning.specs.Settled.{refreshed}
use Rattle.rx_node.specs.MarkView.{instance_seen}
use Rattle.rx_hook_store.specs.Store.{kept_hooks}
use Rattle.rx_causes.specs.Scenes.{number_in, read_another}
use Rattle.rx_begin.proofs.Keeping.{work_decides, calm_told, none_calm, reads_same, seen_versions}
use Rattle.rx_begin.proofs.body.is_calm.Goals as goal

pub returns-then-not-has_work-clause-calm : goal.returns-then-not-has_work-clause-calm
returns-then-not-has_work-clause-calm c calm s is gives = (
  instance_seen c.in-Some.instance,
  ap (option_map instance_seen) c.in-Some.is,
  record {
    number = c.in-Some-number.number;
    is_numbered = c.in-Some-number.is;
    values = c.has_work.ensures.calm s (instance_seen c.in-Some.instance).initials is.lanes is.cut
        (gives (instance_seen c.in-Some.instance) c.in-Some-number.number (ap (option_map instance_seen) c.in-Some.is) c.in-Some-number.is)
        c.if-not-has_work.true;
    reads = (reads_same c.args.scene.now c.args.contexts.now (instance_seen c.in-Some.instance) c.read_another.result c.read_another.ensures calm).0;
    versions = subst (λ version. refreshed version (instance_seen c.in-Some.instance).versions ≡ false) (seen_versions c.args.scene.now s is)
        (reads_same c.args.scene.now c.args.contexts.now (instance_seen c.in-Some.instance) c.read_another.result c.read_another.ensures calm).1;
  },
)

pub returns-then-not-has_work-clause-exact : goal.returns-then-not-has_work-clause-exact
returns-then-not-has_work-clause-exact c =
    calm_told (kept_hooks c.args.hooks.now) c.args.scene.now c.args.contexts.now c.args.instance.now c.in-Some.instance c.in-Some-number.number c.has_work.result c.read_another.result _ c.in-Some.is
    c.in-Some-number.is (λ answers hooks histories. c.has_work.ensures.work answers hooks histories)
    c.read_another.ensures
    (ap (λ b. not b && not c.read_another.result) (sym c.if-not-has_work.true))

pub returns-else-not-has_work-clause-exact : goal.returns-else-not-has_work-clause-exact
returns-else-not-has_work-clause-exact c =
    calm_told (kept_hooks c.args.hooks.now) c.args.scene.now c.args.contexts.now c.args.instance.now c.in-Some.instance c.in-Some-number.number c.has_work.result
    (read_another c.args.scene.now c.args.contexts.now (instance_seen c.in-Some.instance)) (not c.has_work.result) c.in-Some.is c.in-Some-number.is (λ answers hooks histories. c.has_work.ensures.work answers hooks histories) refl
    (work_decides c.has_work.result (read_another c.args.scene.now c.args.contexts.now (instance_seen c.in-Some.instance)) c.if-not-has_work.false)

pub returns-in-None-number-clause-exact : goal.returns-in-None-number-clause-exact
returns-in-None-number-clause-exact c =
    none_calm (kept_hooks c.args.hooks.now) c.args.scene.now c.args.contexts.now (option_map instance_seen c.args.instance.now) (ap (λ o. number_in (option_map instance_seen o)) c.in-Some.is ∙ c.in-None-number.is)

pub returns-in-None-clause-exact : goal.returns-in-None-clause-exact
returns-in-None-clause-exact c =
    none_calm (kept_hooks c.args.hooks.now) c.args.scene.now c.args.contexts.now (option_map instance_seen c.args.instance.now) (ap (λ o. number_in (option_map instance_seen o)) c.in-None.is)
