use Rattle.std.proofs.Common.{sym, ap, refl, ◌∙◌, subst}
use Rattle.rx_fiber.specs.Fibers.{generation_of, origin_of}
use Rattle.rx_fiber.specs.Standing.{is_stood}
use Rattle.rx_fiber.specs.FiberView.{changed}
use Rattle.rx_fiber.specs.Surround.{IsElementOf}
use Rattle.rx_fiber.specs.declared.stage.StageChange.TheVariants as change
use Rattle.rx_elem.specs.Elements.{stands_for_children}
use Rattle.rx_causes.specs.Marks.{keeps_children, mark_at}
use Rattle.rx_children.specs.Origins.{HasCauseToBegin, TellsSteady}
use Rattle.rx_begin.specs.Kids.{kids_as}
use Rattle.rx_begin.proofs.Generations.{below_here, component_below, kept_below, kids_steady}
use Rattle.rx_links.specs.Drafts.{old_of, valued}
use Rattle.rx_causes.specs.Scenes.{TellsCalm}
use Rattle.rx_causes.proofs.Causes.{not_hidden}
use Rattle.rx_children.specs.PartsView.{parts_seen}
use Rattle.rx_children.specs.Nodes.{parts_in}
use Rattle.rx_elem.specs.Trees.{instance_in}
use Rattle.rx_ways.specs.Ways.{is_way}
use Rattle.rx_hook_store.specs.Store.{kept_hooks}
use Rattle.rx_ctx.specs.Contexts.{values_at}
use Rattle.rx_begin.proofs.Keeping.{parts_here, no_parts, if_both}
use Rattle.std.specs.Prelude.{◌≡◌, true, false, not, None, is_some, option_map, option_and_then}
use Rattle.rx_children.proofs.Results.{if_ok}
use Rattle.rx_begin.specs.Beginning.{awaited_again, is_taken}
use Rattle.rx_begin.proofs.Standing.{element_is_again}
use Rattle.rx_begin.proofs.Kids.{is_none, not_both, other_kids, other_no_body, other_no_throw, other_takes_not, other_tried}
use Rattle.rx_children.proofs.Origins.{same_fiber, waits_with}
use Rattle.rx_begin.proofs.Taking.{taken_over}
use Rattle.rx_begin.proofs.Begins.{place_clone, place_held, place_kept, place_olds, place_shown, place_stood, place_tree, place_there, place_context, place_props, begins_body, begins_other, counts_one, made_at}
use Rattle.rx_begin.proofs.beginning.begin.Goals as goal

pub begin_component-requires-clause-kept : goal.begin_component-requires-clause-kept
begin_component-requires-clause-kept g c = place_kept _ _ c.args.tree.now c.args.contexts.now c.args.at c.place_facts.ensures c.requires.place

pub begin_component-requires-clause-given : goal.begin_component-requires-clause-given
begin_component-requires-clause-given g c =
    place_props c.args.scene.now.checked.now _ c.args.tree.now c.args.contexts.now c.args.at c.place_facts.ensures c.requires.place c.value-fiber.result.now c.in_ok-element.element
    (c.value-fiber.ensures.made (made_at _ _ _ _ _ c.place_facts.ensures c.requires.place)) (c.in_ok-element.ensures ∙ c.element.ensures) c.in-Some.parts.component c.in-Some.parts.props.now
    c.in-Some.parts.children.now (sym c.parts_of.ensures ∙ ap (option_map parts_seen) c.in-Some.is)

pub begin_or_hide-requires-clause-context : goal.begin_or_hide-requires-clause-context
begin_or_hide-requires-clause-context g c =
    place_context c.args.scene.now.checked.now _ c.args.tree.now c.args.contexts.now c.args.at c.place_facts.ensures c.requires.place c.value-fiber.result.now c.in_ok-element.element
    (c.value-fiber.ensures.made (made_at _ _ _ _ _ c.place_facts.ensures c.requires.place)) (c.in_ok-element.ensures ∙ c.element.ensures) c.requires.contexts

pub returns-in-Some-clause-bodies : goal.returns-in-Some-clause-bodies
returns-in-Some-clause-bodies g c = c.begin_component.ensures.once

pub returns-in-Some-clause-few : goal.returns-in-Some-clause-few
returns-in-Some-clause-few g c =
    if_ok c.begin_component.result _ _
    (λ b once s n fs cs e old is at.
    counts_one c.args.tree.now c.args.contexts.now c.args.at c.place_facts.ensures c.value-fiber.result.now c.in_ok-element.element
    (c.value-fiber.ensures.made (made_at _ _ _ _ _ c.place_facts.ensures c.requires.place)) (c.in_ok-element.ensures ∙ c.element.ensures) s n fs cs e old at
    c.args.scene.now.checked.now c.in-Some.parts.component c.in-Some.parts.props.now c.in-Some.parts.children.now b.1 is.program
    (sym c.parts_of.ensures ∙ ap (option_map parts_seen) c.in-Some.is)
    (place_props c.args.scene.now.checked.now _ c.args.tree.now c.args.contexts.now c.args.at c.place_facts.ensures c.requires.place c.value-fiber.result.now c.in_ok-element.element
    (c.value-fiber.ensures.made (made_at _ _ _ _ _ c.place_facts.ensures c.requires.place)) (c.in_ok-element.ensures ∙ c.element.ensures) c.in-Some.parts.component c.in-Some.parts.props.now
    c.in-Some.parts.children.now (sym c.parts_of.ensures ∙ ap (option_map parts_seen) c.in-Some.is)))
    c.begin_component.ensures.once

pub begin_or_hide-requires-clause-kept : goal.begin_or_hide-requires-clause-kept
begin_or_hide-requires-clause-kept g c = place_olds _ _ c.args.tree.now c.args.contexts.now c.args.at c.place_facts.ensures c.requires.place

pub returns-in-Some-clause-tries : goal.returns-in-Some-clause-tries
returns-in-Some-clause-tries g c =
    if_ok c.begin_component.result _ _
    (λ b once v here none.
    absurd
    (let f = parts_here c.args.tree.now c.args.at c.value-fiber.result.now v c.in_ok-element.element _ (c.value-fiber.ensures.made (made_at _ _ _ _ _ c.place_facts.ensures c.requires.place)) here (c.in_ok-element.ensures ∙ c.element.ensures) (sym c.parts_of.ensures ∙ ap (option_map parts_seen) c.in-Some.is) in
    let q : ⊥ = cc in q))
    c.begin_component.ensures.once

pub returns-in-Some-clause-none : goal.returns-in-Some-clause-none
returns-in-Some-clause-none g c =
    if_ok c.begin_component.result _ _
    (λ b once v here none.
    absurd
    (let f = parts_here c.args.tree.now c.args.at c.value-fiber.result.now v c.in_ok-element.element _ (c.value-fiber.ensures.made (made_at _ _ _ _ _ c.place_facts.ensures c.requires.place)) here (c.in_ok-element.ensures ∙ c.element.ensures) (sym c.parts_of.ensures ∙ ap (option_map parts_seen) c.in-Some.is) in
    let q : ⊥ = cc in q))
    c.begin_component.ensures.once

pub takes_over-requires-clause-kept : goal.takes_over-requires-clause-kept
takes_over-requires-clause-kept g c = place_tree _ _ c.args.tree.now c.args.contexts.now c.args.at c.place_facts.ensures c.requires.place

pub returns-then-takes_over-clause-tries : goal.returns-then-takes_over-clause-tries
returns-then-takes_over-clause-tries g c v here none same too again x a was is =
    absurd (not_hidden c.args.tree.now.current (old_of c.args.tree.now.draft c.args.at) x a (c.takes_over.ensures.shown c.if-takes_over.true) was is)

pub returns-in-Some-clause-taken : goal.returns-in-Some-clause-taken
returns-in-Some-clause-taken g c = c.begin_component.ensures.taken

pub returns-in-Some-clause-tried : goal.returns-in-Some-clause-tried
returns-in-Some-clause-tried g c = if_ok c.begin_component.result _ _ (λ b own is. absurd (is_none (awaited_again b.0) own.1 is)) c.begin_component.ensures.own

pub returns-then-takes_over-clause-taken_over : goal.returns-then-takes_over-clause-taken_over
returns-then-takes_over-clause-taken_over g c is = c.in_ok-take_node.ensures.taken

pub returns-in-Some-clause-taken_over : goal.returns-in-Some-clause-taken_over
returns-in-Some-clause-taken_over g c = if_ok c.begin_component.result _ _ (λ b own is. absurd (not_both (is_taken b.0) own.0 is)) c.begin_component.ensures.own

pub returns-in-Some-clause-waits : goal.returns-in-Some-clause-waits
returns-in-Some-clause-waits g c = c.begin_component.ensures.waits

pub returns-in-Some-clause-throws : goal.returns-in-Some-clause-throws
returns-in-Some-clause-throws g c = c.begin_component.ensures.throws

pub returns-then-takes_over-clause-rests : goal.returns-then-takes_over-clause-rests
returns-then-takes_over-clause-rests g c is = c.takes_over.ensures.rest c.if-takes_over.true

pub returns-in-Some-clause-rests : goal.returns-in-Some-clause-rests
returns-in-Some-clause-rests g c = if_ok c.begin_component.result _ _ (λ b own is. absurd (not_both (is_taken b.0) own.0 is)) c.begin_component.ensures.own

pub returns-in-Some-clause-news : goal.returns-in-Some-clause-news
returns-in-Some-clause-news g c = if_ok c.begin_component.result _ _ (λ b own is. absurd (is_none (awaited_again b.0) own.1 is)) c.begin_component.ensures.own

-- what is given again, and what is not

pub is_as_before-again-requires-clause-clone : goal.is_as_before-again-requires-clause-clone
is_as_before-again-requires-clause-clone g c = place_clone _ _ c.args.tree.now c.args.contexts.now c.args.at c.place_facts.ensures c.requires.place

pub is_steady-steady-requires-clause-again : goal.is_steady-steady-requires-clause-again
is_steady-steady-requires-clause-again g c v here so = ((c.is_as_before-again.ensures v here).0 so).same

pub keeps_children-kept-requires : goal.keeps_children-kept-requires
keeps_children-kept-requires g c =
    place_held _ _ c.args.tree.now c.args.contexts.now c.args.at c.place_facts.ensures c.requires.place c.alternate.result (c.alternate.ensures.made (made_at _ _ _ _ _ c.place_facts.ensures c.requires.place))

pub begin_or_hide-requires-clause-again : goal.begin_or_hide-requires-clause-again
begin_or_hide-requires-clause-again g c so =
    element_is_again _ c.args.tree.now.current (old_of c.args.tree.now.draft c.args.at) c.value-fiber.result.now c.in_ok-element.element c.is_as_before-again.result
    (c.is_as_before-again.ensures c.value-fiber.result.now (c.value-fiber.ensures.made (made_at _ _ _ _ _ c.place_facts.ensures c.requires.place))) (c.in_ok-element.ensures ∙ c.element.ensures) so

pub returns-then-takes_over-clause-begun : goal.returns-then-takes_over-clause-begun
returns-then-takes_over-clause-begun g c s is n fs cs e old at gives settled covers =
    taken_over s (kept_hooks c.args.hooks.now) c.args.tree.now c.args.contexts.now c.take_node.new.tree c.args.contexts.now c.args.at n fs cs e old c.facts.ensures.linked c.place_facts.ensures at
    c.value-fiber.result.now (c.value-fiber.ensures.made (made_at _ _ _ _ _ c.place_facts.ensures c.requires.place)) c.is_as_before-again.result
    (λ so. ((c.is_as_before-again.ensures c.value-fiber.result.now (c.value-fiber.ensures.made (made_at _ _ _ _ _ c.place_facts.ensures c.requires.place))).0 so).same) (c.takes_over.ensures.again c.if-takes_over.true) c.has_stood-stood.result
    (place_stood _ _ c.args.tree.now c.args.contexts.now c.args.at c.place_facts.ensures c.requires.place c.value-fiber.result.now (c.value-fiber.ensures.made (made_at _ _ _ _ _ c.place_facts.ensures c.requires.place)) c.origin-origin.result c.has_stood-stood.result c.origin-origin.ensures c.has_stood-stood.ensures)
    c.in_ok-take_node.ensures.taken c.take_node.ensures.current refl (is_way c.args.scene.now.ways.now) (c.takes_over.ensures.there c.if-takes_over.true)
    (λ x was. c.takes_over.ensures.idle c.if-takes_over.true s x is was) (c.takes_over.ensures.reads c.if-takes_over.true) c.args.scene.now.refreshes is.refreshes (c.takes_over.ensures.uses c.if-takes_over.true) gives covers

pub returns-in-Some-clause-begun : goal.returns-in-Some-clause-begun
returns-in-Some-clause-begun g c =
    if_ok c.begin_component.result _ _
    (λ b has s is.
    begins_body s _ c.args.tree.now c.args.contexts.now c.begin_component.new.tree _ c.args.at c.facts.ensures.linked c.place_facts.ensures c.value-fiber.result.now c.in_ok-element.element
    (c.value-fiber.ensures.made (made_at _ _ _ _ _ c.place_facts.ensures c.requires.place)) (c.in_ok-element.ensures ∙ c.element.ensures) b.0 (is_way c.args.scene.now.ways.now) c.is_as_before-again.result c.is_steady-steady.result c.generation_below-generation.result
    (λ so. ((c.is_as_before-again.ensures c.value-fiber.result.now (c.value-fiber.ensures.made (made_at _ _ _ _ _ c.place_facts.ensures c.requires.place))).0 so).same) (c.is_steady-steady.ensures c.value-fiber.result.now (c.value-fiber.ensures.made (made_at _ _ _ _ _ c.place_facts.ensures c.requires.place))).0 c.in-Some.parts.component c.in-Some.parts.props.now
    c.in-Some.parts.children.now c.values.result.now (sym c.parts_of.ensures ∙ ap (option_map parts_seen) c.in-Some.is) c.values.ensures refl
    (λ old key kids was gives settled stood same. has s old key kids is was gives settled stood same))
    c.begin_component.ensures.evaluated

pub returns-clause-begun : goal.returns-clause-begun
returns-clause-begun g c s is =
    begins_other s _ c.args.tree.now c.args.contexts.now c.begin_or_hide.new.tree c.begin_or_hide.new.contexts c.args.at c.facts.ensures.linked c.place_facts.ensures c.value-fiber.result.now c.in_ok-element.element
    (c.value-fiber.ensures.made (made_at _ _ _ _ _ c.place_facts.ensures c.requires.place)) (c.in_ok-element.ensures ∙ c.element.ensures) c.in_ok-begun-in-None.begun
    (is_way c.args.scene.now.ways.now) c.args.scene.now c.origin-origin.result c.has_stood-stood.result c.is_as_before-again.result c.is_steady-steady.result c.generation_below-generation.result is
    (λ so. ((c.is_as_before-again.ensures c.value-fiber.result.now (c.value-fiber.ensures.made (made_at _ _ _ _ _ c.place_facts.ensures c.requires.place))).0 so).same)
    (ap (λ x. x.visible) c.origin-origin.ensures ∙ place_shown _ _ c.args.tree.now c.args.contexts.now c.args.at c.place_facts.ensures c.requires.place c.value-fiber.result.now (c.value-fiber.ensures.made (made_at _ _ _ _ _ c.place_facts.ensures c.requires.place)))
    (place_stood _ _ c.args.tree.now c.args.contexts.now c.args.at c.place_facts.ensures c.requires.place c.value-fiber.result.now (c.value-fiber.ensures.made (made_at _ _ _ _ _ c.place_facts.ensures c.requires.place)) c.origin-origin.result c.has_stood-stood.result c.origin-origin.ensures c.has_stood-stood.ensures) (c.is_steady-steady.ensures c.value-fiber.result.now (c.value-fiber.ensures.made (made_at _ _ _ _ _ c.place_facts.ensures c.requires.place))).0
    (place_there c.args.scene.now.checked.now _ c.args.tree.now c.args.contexts.now c.args.at c.place_facts.ensures c.requires.place c.value-fiber.result.now c.in_ok-element.element
    (c.value-fiber.ensures.made (made_at _ _ _ _ _ c.place_facts.ensures c.requires.place)) (c.in_ok-element.ensures ∙ c.element.ensures))
    (sym c.parts_of.ensures ∙ ap (option_map parts_seen) c.in-None.is) c.begin_or_hide.ensures.current c.in_ok-begun-in-None.ensures.begun

-- a body is evaluated unless its element is given again, and its instance is calm
pub returns-in-Some-clause-body : goal.returns-in-Some-clause-body
returns-in-Some-clause-body g c =
    if_both c.begin_component.result _ _
    (λ b exact anew v here some. (
      c.is_as_before-again.result,
      c.is_as_before-again.ensures v here,
      (λ so.
          subst (λ cs. TellsCalm c.args.scene.now (kept_hooks c.args.hooks.now) cs (option_and_then instance_in (mark_at c.args.tree.now.current (old_of c.args.tree.now.draft c.args.at))) (not b.1)) c.values.ensures
          (exact so)),
      anew,
    ))
    c.begin_component.ensures.exact c.begin_component.ensures.anew

pub returns-clause-body : goal.returns-clause-body
returns-clause-body g c v here some =
    absurd (no_parts _ (parts_here c.args.tree.now c.args.at c.value-fiber.result.now v c.in_ok-element.element None (c.value-fiber.ensures.made (made_at _ _ _ _ _ c.place_facts.ensures c.requires.place)) here (c.in_ok-element.ensures ∙ c.element.ensures) (sym c.parts_of.ensures ∙ ap (option_map parts_seen) c.in-None.is)) some)

pub returns-then-takes_over-clause-body : goal.returns-then-takes_over-clause-body
returns-then-takes_over-clause-body g c v here some = (
  c.is_as_before-again.result,
  c.is_as_before-again.ensures v here,
  (λ so.
      c.takes_over.ensures.calm c.if-takes_over.true
      (c.is_component-component.ensures
      ∙ (ap is_some (sym (parts_here c.args.tree.now c.args.at c.value-fiber.result.now v c.in_ok-element.element _ (c.value-fiber.ensures.made (made_at _ _ _ _ _ c.place_facts.ensures c.requires.place)) here (c.in_ok-element.ensures ∙ c.element.ensures) refl))
      ∙ some))),
  (λ not. absurd (not_both c.is_as_before-again.result not (c.takes_over.ensures.again c.if-takes_over.true))),
)

pub returns-then-takes_over-clause-again : goal.returns-then-takes_over-clause-again
returns-then-takes_over-clause-again g c is v here = (c.is_as_before-again.ensures v here).0 (c.takes_over.ensures.again c.if-takes_over.true)

pub returns-in-Some-clause-again : goal.returns-in-Some-clause-again
returns-in-Some-clause-again g c = if_ok c.begin_component.result _ _ (λ b own is. absurd (not_both (is_taken b.0) own.0 is)) c.begin_component.ensures.own

pub returns-clause-again : goal.returns-clause-again
returns-clause-again g c is =
    absurd (not_both (is_taken c.in_ok-begun-in-None.begun) (other_takes_not c.args.scene.now (kept_hooks c.args.hooks.now) c.args.tree.now c.args.contexts.now c.begin_or_hide.new.tree c.begin_or_hide.new.contexts c.args.at c.in_ok-element.element
    c.origin-origin.result c.has_stood-stood.result c.is_as_before-again.result c.is_steady-steady.result c.generation_below-generation.result c.place_facts.ensures
    (λ v here. c.origin-origin.ensures ∙ ap (λ u. origin_of u.stage) (same_fiber c.args.tree.now c.args.at c.value-fiber.result.now v (c.value-fiber.ensures.made (made_at _ _ _ _ _ c.place_facts.ensures c.requires.place)) here)) c.in_ok-begun-in-None.begun c.in_ok-begun-in-None.ensures.begun) is)

pub returns-clause-tries : goal.returns-clause-tries
returns-clause-tries g c v here none same too again x a was is =
    c.in_ok-begun-in-None.ensures.tries
    (subst (IsElementOf c.args.tree.now.current (old_of c.args.tree.now.draft c.args.at))
    (sym ((c.in_ok-element.ensures ∙ c.element.ensures) ∙ ap (λ u. u.element) (same_fiber c.args.tree.now c.args.at c.value-fiber.result.now v (c.value-fiber.ensures.made (made_at _ _ _ _ _ c.place_facts.ensures c.requires.place)) here))) same)
    ((place_stood _ _ c.args.tree.now c.args.contexts.now c.args.at c.place_facts.ensures c.requires.place c.value-fiber.result.now (c.value-fiber.ensures.made (made_at _ _ _ _ _ c.place_facts.ensures c.requires.place)) c.origin-origin.result c.has_stood-stood.result c.origin-origin.ensures c.has_stood-stood.ensures) ∙ (ap (λ u. is_stood c.args.contexts.now u.stage) (same_fiber c.args.tree.now c.args.at c.value-fiber.result.now v (c.value-fiber.ensures.made (made_at _ _ _ _ _ c.place_facts.ensures c.requires.place)) here) ∙ too)) again x a was is

pub returns-in-Some-clause-causes : goal.returns-in-Some-clause-causes
returns-in-Some-clause-causes g c =
    if_ok c.begin_component.result _ _
    (λ b once v here so free.
    subst (λ stood. HasCauseToBegin c.args.scene.now (kept_hooks c.args.hooks.now) (values_at c.args.contexts.now) (is_some (parts_in v.element)) stood c.args.tree.now.current (old_of c.args.tree.now.draft c.args.at))
    ((place_stood _ _ c.args.tree.now c.args.contexts.now c.args.at c.place_facts.ensures c.requires.place c.value-fiber.result.now (c.value-fiber.ensures.made (made_at _ _ _ _ _ c.place_facts.ensures c.requires.place)) c.origin-origin.result c.has_stood-stood.result c.origin-origin.ensures c.has_stood-stood.ensures) ∙ ap (λ u. is_stood c.args.contexts.now u.stage) (same_fiber c.args.tree.now c.args.at c.value-fiber.result.now v (c.value-fiber.ensures.made (made_at _ _ _ _ _ c.place_facts.ensures c.requires.place)) here))
    (subst (λ component. HasCauseToBegin c.args.scene.now (kept_hooks c.args.hooks.now) (values_at c.args.contexts.now) component c.has_stood-stood.result c.args.tree.now.current (old_of c.args.tree.now.draft c.args.at))
    (c.is_component-component.ensures
    ∙ ap is_some (sym (parts_here c.args.tree.now c.args.at c.value-fiber.result.now v c.in_ok-element.element _ (c.value-fiber.ensures.made (made_at _ _ _ _ _ c.place_facts.ensures c.requires.place)) here (c.in_ok-element.ensures ∙ c.element.ensures) refl)))
    (c.takes_over.ensures.cause ((c.is_as_before-again.ensures v here).1 so) c.if-takes_over.false)))
    c.begin_component.ensures.once

pub returns-clause-causes : goal.returns-clause-causes
returns-clause-causes g c v here so free =
    subst (λ stood. HasCauseToBegin c.args.scene.now (kept_hooks c.args.hooks.now) (values_at c.args.contexts.now) (is_some (parts_in v.element)) stood c.args.tree.now.current (old_of c.args.tree.now.draft c.args.at))
    ((place_stood _ _ c.args.tree.now c.args.contexts.now c.args.at c.place_facts.ensures c.requires.place c.value-fiber.result.now (c.value-fiber.ensures.made (made_at _ _ _ _ _ c.place_facts.ensures c.requires.place)) c.origin-origin.result c.has_stood-stood.result c.origin-origin.ensures c.has_stood-stood.ensures) ∙ ap (λ u. is_stood c.args.contexts.now u.stage) (same_fiber c.args.tree.now c.args.at c.value-fiber.result.now v (c.value-fiber.ensures.made (made_at _ _ _ _ _ c.place_facts.ensures c.requires.place)) here))
    (subst (λ component. HasCauseToBegin c.args.scene.now (kept_hooks c.args.hooks.now) (values_at c.args.contexts.now) component c.has_stood-stood.result c.args.tree.now.current (old_of c.args.tree.now.draft c.args.at))
    (c.is_component-component.ensures
    ∙ ap is_some (sym (parts_here c.args.tree.now c.args.at c.value-fiber.result.now v c.in_ok-element.element _ (c.value-fiber.ensures.made (made_at _ _ _ _ _ c.place_facts.ensures c.requires.place)) here (c.in_ok-element.ensures ∙ c.element.ensures) refl)))
    (c.takes_over.ensures.cause ((c.is_as_before-again.ensures v here).1 so) c.if-takes_over.false))

pub returns-in-Some-clause-kids : goal.returns-in-Some-clause-kids
returns-in-Some-clause-kids g c =
    if_both c.begin_component.result _ _
    (λ b kids skipped v here is. (
      kids_as b.1 c.is_steady-steady.result c.generation_below-generation.result,
      c.is_as_before-again.result,
      kids_steady c.args.tree.now.current (old_of c.args.tree.now.draft c.args.at) v b.1 c.is_steady-steady.result c.generation_below-generation.result (c.is_steady-steady.ensures v here),
      c.is_as_before-again.ensures v here,
      component_below b.1 c.is_steady-steady.result (keeps_children c.is_as_before-again.result (mark_at c.args.tree.now.current (old_of c.args.tree.now.draft c.args.at))) (stands_for_children v.element) (generation_of v.stage) c.generation_below-generation.result
          (below_here c.generation_below-generation.result c.is_component-component.result c.keeps_children-kept.result c.stands_for_children.result c.origin-origin.result.generation true
          (keeps_children c.is_as_before-again.result (mark_at c.args.tree.now.current (old_of c.args.tree.now.draft c.args.at))) (stands_for_children v.element) (generation_of v.stage) c.generation_below-generation.ensures
          (c.is_component-component.ensures ∙ ap is_some (sym c.parts_of.ensures ∙ ap (option_map parts_seen) c.in-Some.is))
          (c.keeps_children-kept.ensures ∙ ap (λ o. keeps_children c.is_as_before-again.result (mark_at c.args.tree.now.current o)) (c.alternate.ensures.made (made_at _ _ _ _ _ c.place_facts.ensures c.requires.place)))
          (c.stands_for_children.ensures ∙ ap stands_for_children ((c.in_ok-element.ensures ∙ c.element.ensures) ∙ ap (λ u. u.element) (same_fiber c.args.tree.now c.args.at c.value-fiber.result.now v (c.value-fiber.ensures.made (made_at _ _ _ _ _ c.place_facts.ensures c.requires.place)) here)))
          (ap (λ x. x.generation) c.origin-origin.ensures ∙ ap (λ u. generation_of u.stage) (same_fiber c.args.tree.now c.args.at c.value-fiber.result.now v (c.value-fiber.ensures.made (made_at _ _ _ _ _ c.place_facts.ensures c.requires.place)) here)))
          skipped,
      kids is,
    ))
    c.begin_component.ensures.kids c.begin_component.ensures.kept

pub returns-clause-kids : goal.returns-clause-kids
returns-clause-kids g c v here is =
    let (origin, stands, generation, opens) = other_kids c.args.scene.now (kept_hooks c.args.hooks.now) c.args.tree.now c.args.contexts.now c.begin_or_hide.new.tree c.begin_or_hide.new.contexts c.args.at c.in_ok-element.element
    c.origin-origin.result c.has_stood-stood.result c.is_as_before-again.result c.is_steady-steady.result c.generation_below-generation.result c.place_facts.ensures
    (λ v here. c.origin-origin.ensures ∙ ap (λ u. origin_of u.stage) (same_fiber c.args.tree.now c.args.at c.value-fiber.result.now v (c.value-fiber.ensures.made (made_at _ _ _ _ _ c.place_facts.ensures c.requires.place)) here)) c.in_ok-begun-in-None.begun c.in_ok-begun-in-None.ensures.begun is in (
      origin,
      c.is_as_before-again.result,
      subst (TellsSteady c.args.tree.now.current (old_of c.args.tree.now.draft c.args.at) v) (sym stands) (c.is_steady-steady.ensures v here),
      c.is_as_before-again.ensures v here,
      kept_below (keeps_children c.is_as_before-again.result (mark_at c.args.tree.now.current (old_of c.args.tree.now.draft c.args.at))) (stands_for_children v.element) (generation_of v.stage) origin.generation c.generation_below-generation.result generation
          (below_here c.generation_below-generation.result c.is_component-component.result c.keeps_children-kept.result c.stands_for_children.result c.origin-origin.result.generation false
          (keeps_children c.is_as_before-again.result (mark_at c.args.tree.now.current (old_of c.args.tree.now.draft c.args.at))) (stands_for_children v.element) (generation_of v.stage) c.generation_below-generation.ensures
          (c.is_component-component.ensures ∙ ap is_some (sym c.parts_of.ensures ∙ ap (option_map parts_seen) c.in-None.is))
          (c.keeps_children-kept.ensures ∙ ap (λ o. keeps_children c.is_as_before-again.result (mark_at c.args.tree.now.current o)) (c.alternate.ensures.made (made_at _ _ _ _ _ c.place_facts.ensures c.requires.place)))
          (c.stands_for_children.ensures ∙ ap stands_for_children ((c.in_ok-element.ensures ∙ c.element.ensures) ∙ ap (λ u. u.element) (same_fiber c.args.tree.now c.args.at c.value-fiber.result.now v (c.value-fiber.ensures.made (made_at _ _ _ _ _ c.place_facts.ensures c.requires.place)) here)))
          (ap (λ x. x.generation) c.origin-origin.ensures ∙ ap (λ u. generation_of u.stage) (same_fiber c.args.tree.now c.args.at c.value-fiber.result.now v (c.value-fiber.ensures.made (made_at _ _ _ _ _ c.place_facts.ensures c.requires.place)) here))),
      opens,
    )

pub returns-clause-tried : goal.returns-clause-tried
returns-clause-tried g c is v d here waits =
    subst (λ x. c.begin_or_hide.new.tree ≡ record c.args.tree.now { draft = valued c.args.at (changed (change.Try x)) c.args.tree.now.draft })
    (waits_with c.args.tree.now c.args.at c.value-fiber.result.now v (c.value-fiber.ensures.made (made_at _ _ _ _ _ c.place_facts.ensures c.requires.place)) here c.origin-origin.result d c.origin-origin.ensures waits)
    (other_tried c.args.scene.now (kept_hooks c.args.hooks.now) c.args.tree.now c.args.contexts.now c.begin_or_hide.new.tree c.begin_or_hide.new.contexts c.args.at c.in_ok-element.element
    c.origin-origin.result c.has_stood-stood.result c.is_as_before-again.result c.is_steady-steady.result c.generation_below-generation.result c.place_facts.ensures
    (λ v here. c.origin-origin.ensures ∙ ap (λ u. origin_of u.stage) (same_fiber c.args.tree.now c.args.at c.value-fiber.result.now v (c.value-fiber.ensures.made (made_at _ _ _ _ _ c.place_facts.ensures c.requires.place)) here)) c.in_ok-begun-in-None.begun c.in_ok-begun-in-None.ensures.begun is)

pub returns-clause-taken_over : goal.returns-clause-taken_over
returns-clause-taken_over g c is =
    absurd (not_both (is_taken c.in_ok-begun-in-None.begun) (other_takes_not c.args.scene.now (kept_hooks c.args.hooks.now) c.args.tree.now c.args.contexts.now c.begin_or_hide.new.tree c.begin_or_hide.new.contexts c.args.at c.in_ok-element.element
    c.origin-origin.result c.has_stood-stood.result c.is_as_before-again.result c.is_steady-steady.result c.generation_below-generation.result c.place_facts.ensures
    (λ v here. c.origin-origin.ensures ∙ ap (λ u. origin_of u.stage) (same_fiber c.args.tree.now c.args.at c.value-fiber.result.now v (c.value-fiber.ensures.made (made_at _ _ _ _ _ c.place_facts.ensures c.requires.place)) here)) c.in_ok-begun-in-None.begun c.in_ok-begun-in-None.ensures.begun) is)

pub returns-clause-waits : goal.returns-clause-waits
returns-clause-waits g c r is =
    absurd (other_no_body c.args.scene.now (kept_hooks c.args.hooks.now) c.args.tree.now c.args.contexts.now c.begin_or_hide.new.tree c.begin_or_hide.new.contexts c.args.at c.in_ok-element.element
    c.origin-origin.result c.has_stood-stood.result c.is_as_before-again.result c.is_steady-steady.result c.generation_below-generation.result c.place_facts.ensures
    (λ v here. c.origin-origin.ensures ∙ ap (λ u. origin_of u.stage) (same_fiber c.args.tree.now c.args.at c.value-fiber.result.now v (c.value-fiber.ensures.made (made_at _ _ _ _ _ c.place_facts.ensures c.requires.place)) here)) c.in_ok-begun-in-None.begun c.in_ok-begun-in-None.ensures.begun r is)

pub returns-clause-throws : goal.returns-clause-throws
returns-clause-throws g c x is =
    absurd (other_no_throw c.args.scene.now (kept_hooks c.args.hooks.now) c.args.tree.now c.args.contexts.now c.begin_or_hide.new.tree c.begin_or_hide.new.contexts c.args.at c.in_ok-element.element
    c.origin-origin.result c.has_stood-stood.result c.is_as_before-again.result c.is_steady-steady.result c.generation_below-generation.result c.place_facts.ensures
    (λ v here. c.origin-origin.ensures ∙ ap (λ u. origin_of u.stage) (same_fiber c.args.tree.now c.args.at c.value-fiber.result.now v (c.value-fiber.ensures.made (made_at _ _ _ _ _ c.place_facts.ensures c.requires.place)) here)) c.in_ok-begun-in-None.begun c.in_ok-begun-in-None.ensures.begun x is)

pub returns-clause-rests : goal.returns-clause-rests
returns-clause-rests g c is =
    absurd (not_both (is_taken c.in_ok-begun-in-None.begun) (other_takes_not c.args.scene.now (kept_hooks c.args.hooks.now) c.args.tree.now c.args.contexts.now c.begin_or_hide.new.tree c.begin_or_hide.new.contexts c.args.at c.in_ok-element.element
    c.origin-origin.result c.has_stood-stood.result c.is_as_before-again.result c.is_steady-steady.result c.generation_below-generation.result c.place_facts.ensures
    (λ v here. c.origin-origin.ensures ∙ ap (λ u. origin_of u.stage) (same_fiber c.args.tree.now c.args.at c.value-fiber.result.now v (c.value-fiber.ensures.made (made_at _ _ _ _ _ c.place_facts.ensures c.requires.place)) here)) c.in_ok-begun-in-None.begun c.in_ok-begun-in-None.ensures.begun) is)
