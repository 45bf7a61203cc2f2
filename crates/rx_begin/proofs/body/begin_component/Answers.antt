use Rattle.std.proofs.Common.{refl, sym, ap, ◌∙◌, subst}
use Rattle.std.specs.Prelude.{option_and_then}
use Rattle.rx_elem.specs.Trees.{instance_in, of_instance}
use Rattle.rx_links.specs.Drafts.{old_of}
use Rattle.rx_causes.specs.Marks.{mark_at}
use Rattle.rx_causes.specs.Scenes.{GivesHooks, number_in}
use Rattle.rx_causes.proofs.Marks.{old_instance_is}
use Rattle.rx_begin.specs.Bodies.{keeps}
use Rattle.rx_hook_store.specs.Store.{kept_hooks}
use Rattle.rx_children.proofs.Nodes.{bare_made}
use Rattle.rx_begin.proofs.Bodies.{evaluated, instance_at}
use Rattle.rx_fiber.specs.Fibers.{as_cloned}
use Rattle.rx_begin.proofs.Kids.{opened_takes_not, opened_waits_not, opened_no_body, opened_no_throw}
use Rattle.rx_begin.proofs.Keeping.{calm_shape}
use Rattle.rx_begin.proofs.Standing.{instance_keeps, instance_there}
use Rattle.rx_begin.proofs.body.begin_component.Goals as goal

pub keep_body-requires-clause-there : goal.keep_body-requires-clause-there
keep_body-requires-clause-there g c = c.is_skipped.ensures.there c.if-is_skipped.true

pub returns-then-is_skipped-clause-evaluated : goal.returns-then-is_skipped-clause-evaluated
returns-then-is_skipped-clause-evaluated g c s old key kids is was gives settled stood same =
    let instance = instance_at c.args.tree.now.current c.alternate.result (old_of c.args.tree.now.draft c.args.at) old _
    (c.alternate.ensures.made (bare_made c.args.tree.now c.args.at c.place_facts.ensures c.requires.bare)) was c.in_ok-old.ensures in
    let (i, there, calm) = c.is_skipped.ensures.calm c.if-is_skipped.true s is (subst (GivesHooks s (kept_hooks c.args.hooks.now)) (sym instance) gives) in
    keeps
    (record {
      mark = of_instance i;
      shape_is = calm_shape s c.args.contexts.now c.args.component key c.args.props.now kids old i settled (stood (c.is_skipped.ensures.again c.if-is_skipped.true)) (sym instance ∙ there) calm;
      shown = refl;
      keeps =
          instance_keeps c.args.tree.now.current (old_of c.args.tree.now.draft c.args.at) c.args.place.again i (c.is_skipped.ensures.again c.if-is_skipped.true)
          (old_instance_is c.args.tree.now.current (old_of c.args.tree.now.draft c.args.at) old was ∙ (sym instance ∙ there));
      opened = c.in_ok-begun.ensures.kept i there;
    })

pub returns-clause-evaluated : goal.returns-clause-evaluated
returns-clause-evaluated g c s old key kids is was gives settled stood same =
    let instance = instance_at c.args.tree.now.current c.alternate.result (old_of c.args.tree.now.draft c.args.at) old _
    (c.alternate.ensures.made (bare_made c.args.tree.now c.args.at c.place_facts.ensures c.requires.bare)) was c.in_ok-old.ensures in
    evaluated s c.args.contexts.now c.args.component c.args.props.now kids old _ c.args.tree.now c.open_body.new.tree c.args.at c.in_ok-begun-2.begun c.args.place.again c.args.place.steady c.args.place.generation
    (c.in_ok-body.ensures.body s _ kids is (sym (c.number_of-number.ensures ∙ ap number_in instance)) gives same)
    (c.in_ok-begun-2.ensures.opened c.args.contexts.now old c.args.place.again instance)

pub returns-clause-taken : goal.returns-clause-taken
returns-clause-taken g c is = sym is ∙ c.in_ok-begun-2.ensures.anew

pub returns-then-is_skipped-clause-own : goal.returns-then-is_skipped-clause-own
returns-then-is_skipped-clause-own g c = (
  opened_takes_not (as_cloned c.args.place.steady) c.args.tree.now c.keep_body.new.tree c.args.at c.in_ok-begun.begun c.in_ok-begun.ensures.kids,
  opened_waits_not (as_cloned c.args.place.steady) c.args.tree.now c.keep_body.new.tree c.args.at c.in_ok-begun.begun c.in_ok-begun.ensures.kids,
)

pub returns-then-is_skipped-clause-kids : goal.returns-then-is_skipped-clause-kids
returns-then-is_skipped-clause-kids g c is = c.in_ok-begun.ensures.kids

pub returns-then-is_skipped-clause-waits : goal.returns-then-is_skipped-clause-waits
returns-then-is_skipped-clause-waits g c r is = absurd (opened_no_body (as_cloned c.args.place.steady) c.args.tree.now c.keep_body.new.tree c.args.at c.in_ok-begun.begun c.in_ok-begun.ensures.kids r is)

pub returns-clause-own : goal.returns-clause-own
returns-clause-own g c = (c.in_ok-begun-2.ensures.anew, c.in_ok-begun-2.ensures.own)

pub returns-clause-kids : goal.returns-clause-kids
returns-clause-kids g c is = c.in_ok-begun-2.ensures.kids is

pub returns-clause-waits : goal.returns-clause-waits
returns-clause-waits g c r is = c.in_ok-begun-2.ensures.waits r is

pub returns-then-is_skipped-clause-kept : goal.returns-then-is_skipped-clause-kept
returns-then-is_skipped-clause-kept g c none =
    instance_there c.args.tree.now.current (old_of c.args.tree.now.draft c.args.at) c.args.place.again _ (c.is_skipped.ensures.again c.if-is_skipped.true) (c.is_skipped.ensures.there c.if-is_skipped.true)
    (c.in_ok-old.ensures ∙ ap (λ o. option_and_then instance_in (mark_at c.args.tree.now.current o)) (c.alternate.ensures.made (bare_made c.args.tree.now c.args.at c.place_facts.ensures c.requires.bare)))

pub returns-then-is_skipped-clause-throws : goal.returns-then-is_skipped-clause-throws
returns-then-is_skipped-clause-throws g c x is = absurd (opened_no_throw (as_cloned c.args.place.steady) c.args.tree.now c.keep_body.new.tree c.args.at c.in_ok-begun.begun c.in_ok-begun.ensures.kids x is)

pub returns-clause-throws : goal.returns-clause-throws
returns-clause-throws g c x is = c.in_ok-begun-2.ensures.throws x is
