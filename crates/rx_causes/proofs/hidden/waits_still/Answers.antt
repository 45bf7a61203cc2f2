use Rattle.std.proofs.Common.{◌≡◌, ◌≤◌, true, false, ◌∙◌, sym, ap, subst, inl, inr, length}
use Rattle.rx_base.specs.Awaits.{resource_limit}
use Rattle.rx_rules.specs.Names.{resources}
use Rattle.rx_elem.specs.Trees.{of_boundary}
use Rattle.rx_susp.specs.declared.boundary.BoundaryState.TheVariants.{Hidden}
use Rattle.rx_check.proofs.Limited.{few-resources}
use Rattle.rx_links.specs.Readers.{list_from}
use Rattle.rx_fiber.specs.OldLists.{primary_list}
use Rattle.rx_fiber.proofs.OldReads.{some_held}
use Rattle.rx_hook_store.specs.Store.{kept_hooks}
use Rattle.rx_causes.specs.Hidden.{HasValueOf}
use Rattle.rx_causes.proofs.Still.{no_old, marks_node, node_marks, kept_fibers, kept_agrees, kept_news, kept_told, none_resolved}
use Rattle.rx_causes.proofs.hidden.waits_still.Goals as goal
use Rattle.rx_causes.proofs.hidden.waits_still.Goals.{then-has_value, else-has_value}

pub returns-in_err-id-clause-tries : goal.returns-in_err-id-clause-tries
returns-in_err-id-clause-tries c none x a was is = absurd (no_old c.args.tree.now.current c.args.old x c.in_err-id.was was)

pub returns-in_err-awaits-clause-tries : goal.returns-in_err-awaits-clause-tries
returns-in_err-awaits-clause-tries c none x a was is =
    let trees = c.args.tree.now.current in
    let held = some_held trees c.args.old c.in_ok-id.id c.requires.held c.in_ok-id.was in
    absurd
    (c.awaits_of.ensures.none c.in_err-awaits.was a
    (node_marks trees c.args.old c.in_ok-id.id c.value.result.now _ c.in_ok-id.was (c.value.ensures.current held) c.stage.ensures x was (of_boundary (Hidden a)) is))

pub any_news-requires-clause-kept : goal.any_news-requires-clause-kept
any_news-requires-clause-kept c =
    let trees = c.args.tree.now.current in
    kept_fibers trees c.facts.ensures.linked c.args.old c.old_primary-kept.result
    (c.old_primary-kept.ensures.list ∙ ap (λ o. primary_list (list_from trees o)) (sym c.in_ok-id.was)) (kept_hooks c.args.hooks.now) c.requires.kept

pub returns-then-any_news-clause-tries : goal.returns-then-any_news-clause-tries
returns-then-any_news-clause-tries c none x a was is =
    let trees = c.args.tree.now.current in
    let held = some_held trees c.args.old c.in_ok-id.id c.requires.held c.in_ok-id.was in
    let own = marks_node trees c.args.old c.in_ok-id.id c.value.result.now _ c.in_ok-id.was (c.value.ensures.current held) c.stage.ensures x was (of_boundary (Hidden c.in_ok-awaits.awaits)) c.in_ok-awaits.ensures.hidden in
    let same : c.in_ok-awaits.awaits ≡ a = (let f : of_boundary (Hidden c.in_ok-awaits.awaits) ≡ of_boundary (Hidden a) = sym own ∙ is in cc) in
    elim c.if-has_value.branch [
      | then-has_value w ↦ inr (inr (inl (subst (HasValueOf c.args.scene.now.resources.now) same (c.has_value.ensures.some w.if-has_value.true))))
      | else-has_value w ↦
          inr
          (inr (inr (kept_news trees c.facts.ensures.linked c.args.old c.old_primary-kept.result
          (c.old_primary-kept.ensures.list ∙ ap (λ o. primary_list (list_from trees o)) (sym c.in_ok-id.was)) (kept_hooks c.args.hooks.now) c.args.scene.now.lanes c.args.scene.now.cut x was
          (w.any_news.ensures.some (sym w.value-is ∙ c.if-any_news.true)))))
    ]

pub returns-else-any_news-clause-waits : goal.returns-else-any_news-clause-waits
returns-else-any_news-clause-waits c s x is was gives =
    let trees = c.args.tree.now.current in
    let held = some_held trees c.args.old c.in_ok-id.id c.requires.held c.in_ok-id.was in
    let few : length (resources s.program) ≤ resource_limit =
    subst (λ p. length (resources p) ≤ resource_limit) (sym is.program) (few-resources c.args.scene.now.checked.now c.program-accepted.ensures.accepted) in
    elim c.if-has_value.branch [
      | then-has_value w ↦ absurd (let q : true ≡ false = sym w.if-has_value.true ∙ (sym w.value-is ∙ c.if-any_news.false) in let r : ⊥ = cc in r)
      | else-has_value w ↦
          record {
            hidden = marks_node trees c.args.old c.in_ok-id.id c.value.result.now _ c.in_ok-id.was (c.value.ensures.current held) c.stage.ensures x was (of_boundary (Hidden c.in_ok-awaits.awaits)) c.in_ok-awaits.ensures.hidden;
            unresolved = none_resolved s c.in_ok-awaits.awaits c.args.scene.now.resources.now is.resources few (c.has_value.ensures.none w.if-has_value.false);
            versions = sym is.refreshes ∙ c.if-scene.false;
            calm = sym is.throws ∙ c.if-scene-2.false;
            same =
                kept_agrees trees c.facts.ensures.linked c.args.old c.old_primary-kept.result
                (c.old_primary-kept.ensures.list ∙ ap (λ o. primary_list (list_from trees o)) (sym c.in_ok-id.was)) (kept_hooks c.args.hooks.now) c.args.scene.now.lanes c.args.scene.now.cut x was s is.lanes is.cut
                (w.any_news.ensures.none (sym w.value-is ∙ c.if-any_news.false)) gives;
          }
    ]

pub returns-else-any_news-clause-news : goal.returns-else-any_news-clause-news
returns-else-any_news-clause-news c x was =
    let trees = c.args.tree.now.current in
    elim c.if-has_value.branch [
      | then-has_value w ↦ absurd (let q : true ≡ false = sym w.if-has_value.true ∙ (sym w.value-is ∙ c.if-any_news.false) in let r : ⊥ = cc in r)
      | else-has_value w ↦
          kept_told trees c.facts.ensures.linked c.args.old c.old_primary-kept.result
          (c.old_primary-kept.ensures.list ∙ ap (λ o. primary_list (list_from trees o)) (sym c.in_ok-id.was)) (kept_hooks c.args.hooks.now) c.args.scene.now.lanes c.args.scene.now.cut x was
          (w.any_news.ensures.none (sym w.value-is ∙ c.if-any_news.false))
    ]
