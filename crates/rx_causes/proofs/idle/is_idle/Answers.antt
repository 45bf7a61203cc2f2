use Rattle.std.proofs.Common.{Some, option_and_then, refl, sym, ap, inl, inr, ◌∙◌}
use Rattle.rx_elem.specs.Trees.{instance_in}
use Rattle.rx_lists.specs.Shapes.{first}
use Rattle.rx_links.specs.Drafts.{kids_of}
use Rattle.rx_links.specs.Readers.{list_from, rest_of}
use Rattle.rx_fiber.proofs.OldReads.{some_held}
use Rattle.rx_ways.specs.Ways.{is_way}
use Rattle.rx_hook_store.specs.Store.{kept_hooks}
use Rattle.rx_causes.specs.Idle.{is_anew}
use Rattle.rx_causes.proofs.Marks.{mark_is}
use Rattle.rx_causes.proofs.Walks.{list_at_links}
use Rattle.rx_causes.proofs.Still.{no_old, stage_mark}
use Rattle.rx_causes.proofs.Causes.{keeps_fibers, mark_there, told_again, tree_cause, tree_idle, tree_rests}
use Rattle.rx_causes.proofs.idle.is_idle.Goals as goal

pub leads_to_cause-requires-clause-own : goal.leads_to_cause-requires-clause-own
leads_to_cause-requires-clause-own c v here =
    let trees = c.args.tree.now.current in
    let i = c.in-Some.id in
    let held = some_held trees c.args.old i c.requires.held c.in-Some.is in
    (keeps_fibers trees c.args.old i c.in-Some.is v (list_from trees (first (kids_of trees i))) (list_from trees (first (rest_of trees i)))
    (list_at_links trees c.facts.ensures.linked i held v here (first (kids_of trees i)) refl (first (rest_of trees i)) refl) (kept_hooks c.args.hooks.now) c.requires.kept).0

pub leads_to_cause-requires-clause-below : goal.leads_to_cause-requires-clause-below
leads_to_cause-requires-clause-below c =
    let trees = c.args.tree.now.current in
    let i = c.in-Some.id in
    let held = some_held trees c.args.old i c.requires.held c.in-Some.is in
    let v = c.value.result.now in
    (keeps_fibers trees c.args.old i c.in-Some.is v (list_from trees (first (kids_of trees i))) (list_from trees (first (rest_of trees i)))
    (list_at_links trees c.facts.ensures.linked i held v (c.value.ensures.current held) (first (kids_of trees i)) refl (first (rest_of trees i)) refl) (kept_hooks c.args.hooks.now) c.requires.kept).1

pub returns-then-not-leads_to_cause-clause-there : goal.returns-then-not-leads_to_cause-clause-there
returns-then-not-leads_to_cause-clause-there c free = mark_there c.args.tree.now.current c.args.old c.in-Some.id c.requires.kept.node c.requires.kept.was c.in-Some.is

pub returns-then-not-leads_to_cause-clause-idle : goal.returns-then-not-leads_to_cause-clause-idle
returns-then-not-leads_to_cause-clause-idle c free s x is was gives covers =
    let trees = c.args.tree.now.current in
    let i = c.in-Some.id in
    let held = some_held trees c.args.old i c.requires.held c.in-Some.is in
    let v = c.value.result.now in
    let here = c.value.ensures.current held in
    tree_idle trees c.args.old i c.in-Some.is v (list_from trees (first (kids_of trees i))) (list_from trees (first (rest_of trees i)))
    (list_at_links trees c.facts.ensures.linked i held v here (first (kids_of trees i)) refl (first (rest_of trees i)) refl)
    (kept_hooks c.args.hooks.now) c.args.scene.now.lanes c.args.scene.now.cut x was (is_way c.args.scene.now.ways.now)
    (c.leads_to_cause.ensures.none c.if-not-leads_to_cause.true v here) s is.lanes is.cut gives covers

pub returns-then-not-leads_to_cause-clause-rest : goal.returns-then-not-leads_to_cause-clause-rest
returns-then-not-leads_to_cause-clause-rest c free x was =
    let trees = c.args.tree.now.current in
    let i = c.in-Some.id in
    let held = some_held trees c.args.old i c.requires.held c.in-Some.is in
    let v = c.value.result.now in
    let here = c.value.ensures.current held in
    tree_rests trees c.args.old i c.in-Some.is v (list_from trees (first (kids_of trees i))) (list_from trees (first (rest_of trees i)))
    (list_at_links trees c.facts.ensures.linked i held v here (first (kids_of trees i)) refl (first (rest_of trees i)) refl)
    (kept_hooks c.args.hooks.now) c.args.scene.now.lanes c.args.scene.now.cut x was (is_way c.args.scene.now.ways.now)
    (c.leads_to_cause.ensures.none c.if-not-leads_to_cause.true v here)

pub returns-else-not-leads_to_cause-clause-cause : goal.returns-else-not-leads_to_cause-clause-cause
returns-else-not-leads_to_cause-clause-cause c busy x was =
    let trees = c.args.tree.now.current in
    let i = c.in-Some.id in
    let held = some_held trees c.args.old i c.requires.held c.in-Some.is in
    let v = c.value.result.now in
    let here = c.value.ensures.current held in
    inr
    (tree_cause trees c.args.old i c.in-Some.is v (list_from trees (first (kids_of trees i))) (list_from trees (first (rest_of trees i)))
    (list_at_links trees c.facts.ensures.linked i held v here (first (kids_of trees i)) refl (first (rest_of trees i)) refl)
    (kept_hooks c.args.hooks.now) c.args.scene.now.lanes c.args.scene.now.cut x was (is_way c.args.scene.now.ways.now)
    (c.leads_to_cause.ensures.some c.if-not-leads_to_cause.false v here))

pub returns-then-not-leads_to_cause-clause-cause : goal.returns-then-not-leads_to_cause-clause-cause
returns-then-not-leads_to_cause-clause-cause c busy x was =
    let trees = c.args.tree.now.current in
    let i = c.in-Some.id in
    let held = some_held trees c.args.old i c.requires.held c.in-Some.is in
    let v = c.value.result.now in
    let marked = stage_mark trees c.args.old i v _ c.in-Some.is (c.value.ensures.current held) c.stage-stage.ensures in
    inl
    (ap (λ m. is_anew c.args.scene.now c.args.component c.args.contexts.now (option_and_then instance_in m)) (sym (marked ∙ mark_is trees c.args.old (Some x) was))
    ∙ (sym c.is_anew.ensures ∙ told_again c.is_anew.result busy))

pub returns-in-None-clause-cause : goal.returns-in-None-clause-cause
returns-in-None-clause-cause c e x was = absurd (no_old c.args.tree.now.current c.args.old x c.in-None.is was)
