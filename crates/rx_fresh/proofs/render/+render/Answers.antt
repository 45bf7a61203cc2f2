use Rattle.std.proofs.Common.{◌∙◌, None, Some, [], ◌∷◌, refl, ap, sym, subst, arith}
use Rattle.std.specs.Option.{option_copied}
use Rattle.std.proofs.lemmas.Result.{IfOk-weaker}
use Rattle.rx_elem.specs.Elements.{gathered}
use Rattle.rx_elem.specs.Trees.{children_if, fallback_if, forest, none, of_catcher}
use Rattle.rx_meaning.specs.Fresh.{all_made, old_instance, over, over_boundary, over_catcher, render_list, rendered, waits}
use Rattle.rx_fresh.specs.Giving.{given_seen}
use Rattle.rx_node.specs.MarkView.{mark_seen}
use Rattle.rx_hook_store.specs.Store.{kept_hooks}
use Rattle.rx_fresh.specs.PlaceView.{place_seen, places_seen}
use Rattle.rx_fresh.proofs.Going.{further, stays}
use Rattle.rx_fresh.proofs.Listing.{all_done, child_done, drawn_at, listed-gathered, next_place, throws_here, waits_here}
use Rattle.rx_fresh.proofs.Olds.{gives_at, gives_children, gives_fallback, gives_hooks, gives_trees, keeps_at, keeps_children, keeps_fallback, keeps_trees, kept_if}
use Rattle.rx_fresh.proofs.SameTexts.{texts_stay}
use Rattle.rx_fresh.proofs.Shapes.{component_ready, component_throws, component_waits, drawn_body, no_level, one_level, small_wait}
use Rattle.rx_fresh.proofs.render.+render.Goals as goal
use Rattle.rx_susp.specs.declared.boundary.BoundaryState.TheVariants.{Shown}
use Rattle.rx_catch.specs.declared.state.CatchState.TheVariants.{Caught, Fine}
use Rattle.rx_elem.specs.Trees.{node, of_boundary, of_host, of_instance, plain}
use Rattle.rx_meaning.specs.Fresh.{instance_after, made, one_waits, place_of, shape_of, shape_of_catcher, shape_of_component}
use Rattle.rx_rules.specs.Names.{component_at}
use Rattle.rx_elem.specs.Trees.{old_caught}
use Rattle.draw_laws.specs.Drawn.{AreDrawn, IsDrawn}
use Rattle.rx_fresh.specs.Seeing.{number_in}
use Rattle.rx_fresh.proofs.render.+render.Goals.{render_list-in-Empty+in_ok-push-in-Empty, render_list-in-Made+in_ok-push-in-Made}
use Rattle.rx_elem.specs.ElementView.{element_seen}
use Rattle.rx_fresh.proofs.Listing.{onto}

pub render_list-render_place-requires : goal.render_list-render_place-requires
render_list-render_place-requires g t c κs sub =
    let kept = keeps_trees c.args.shot.now.checked.now c.args.shot.now.lanes c.args.shot.now.cut (kept_hooks c.args.hooks.now) (kept_hooks c.loop-place.hooks) c.loop-place.invariant.goes (forest c.args.old.now) c.requires.kept in (
      omega (arith, c.decreases),
      (
        sub,
        (
          drawn_at c.args.shot.now.checked.now c.args.elements.now c.loop-place.place c.index-elements-place.result _ c.loop-place-test.true c.index-elements-place.is c.requires.drawn,
          (keeps_at (kept_hooks c.loop-place.hooks) (forest c.args.old.now) _ _ c.node_at-past.ensures kept, c.loop-place.invariant.evaluated),
        ),
      ),
    )

pub render_list-loop-place-preserved : goal.render_list-loop-place-preserved
render_list-loop-place-preserved g t c = record {
  evaluated = c.render_place.ensures.evaluated;
  goes = further c.args.shot.now.checked.now c.args.shot.now.lanes c.args.shot.now.cut (kept_hooks c.args.hooks.now) (kept_hooks c.loop-place.hooks) (kept_hooks c.render_place.new.hooks) c.loop-place.invariant.goes c.render_place.ensures.goes;
  so_far = λ s is gives.
      let olds = forest c.args.old.now in
      let k = c.loop-place.place in
      let here = c.in_ok-here.ensures.place s is (gives_at s (kept_hooks c.loop-place.hooks) olds _ _ c.node_at-past.ensures (gives_trees c.args.shot.now s (kept_hooks c.args.hooks.now) (kept_hooks c.loop-place.hooks) is c.loop-place.invariant.goes olds gives)) in
      let next = next_place (rendered c.args.depth s c.args.contexts.now) olds c.args.elements.now c.in_ok-places.places.items c.in_ok-places.ensures.are k c.index-elements-place.result _ c.index.result.now _ _ (place_seen c.in_ok-here.here)
      c.loop-place-test.true (omega (arith, c.in_ok-places.ensures.each, c.loop-place-test.true)) c.index-elements-place.is c.index.ensures c.node_at-past.ensures here in
      elim c.match-here.branch [
        | render_list-in-Empty+in_ok-push-in-Empty w ↦
            child_done (rendered c.args.depth s c.args.contexts.now) olds c.args.elements.now c.in_ok-places.places.items c.in_ok-places.ensures.are k c.loop-place.nodes.items c.match-here.nodes.items None (place_seen c.in_ok-here.here) _ next (ap place_seen w.in-Empty.is) (ap (λ v. v.items) w.nodes-is ∙ w.in_ok-push-in-Empty.ensures.items) (c.loop-place.invariant.so_far s is gives)
        | render_list-in-Made+in_ok-push-in-Made w ↦
            child_done (rendered c.args.depth s c.args.contexts.now) olds c.args.elements.now c.in_ok-places.places.items c.in_ok-places.ensures.are k c.loop-place.nodes.items c.match-here.nodes.items (Some w.in-Made.node) (place_seen c.in_ok-here.here) _ next (ap place_seen w.in-Made.is) (ap (λ v. v.items) w.nodes-is ∙ w.in_ok-push-in-Made.ensures.items) (c.loop-place.invariant.so_far s is gives)
      ];
}

pub render_list-returns-in-Waits-clause-places : goal.render_list-returns-in-Waits-clause-places
render_list-returns-in-Waits-clause-places g t c s is gives =
    let olds = forest c.args.old.now in
    let k = c.loop-place.place in
    let here = c.in_ok-here.ensures.place s is (gives_at s (kept_hooks c.loop-place.hooks) olds _ _ c.node_at-past.ensures (gives_trees c.args.shot.now s (kept_hooks c.args.hooks.now) (kept_hooks c.loop-place.hooks) is c.loop-place.invariant.goes olds gives)) in
    let next = next_place (rendered c.args.depth s c.args.contexts.now) olds c.args.elements.now c.in_ok-places.places.items c.in_ok-places.ensures.are k c.index-elements-place.result _ c.index.result.now _ _ (place_seen c.in_ok-here.here)
    c.loop-place-test.true (omega (arith, c.in_ok-places.ensures.each, c.loop-place-test.true)) c.index-elements-place.is c.index.ensures c.node_at-past.ensures here in
    waits_here (rendered c.args.depth s c.args.contexts.now) olds c.args.elements.now c.in_ok-places.places.items c.in_ok-places.ensures.are k c.loop-place.nodes.items c.in-Waits.awaits (place_seen c.in_ok-here.here) _ next (ap place_seen c.in-Waits.is) (c.loop-place.invariant.so_far s is gives)

pub render_list-returns-in-Throws-clause-places : goal.render_list-returns-in-Throws-clause-places
render_list-returns-in-Throws-clause-places g t c s is gives =
    let olds = forest c.args.old.now in
    let k = c.loop-place.place in
    let here = c.in_ok-here.ensures.place s is (gives_at s (kept_hooks c.loop-place.hooks) olds _ _ c.node_at-past.ensures (gives_trees c.args.shot.now s (kept_hooks c.args.hooks.now) (kept_hooks c.loop-place.hooks) is c.loop-place.invariant.goes olds gives)) in
    let next = next_place (rendered c.args.depth s c.args.contexts.now) olds c.args.elements.now c.in_ok-places.places.items c.in_ok-places.ensures.are k c.index-elements-place.result _ c.index.result.now _ _ (place_seen c.in_ok-here.here)
    c.loop-place-test.true (omega (arith, c.in_ok-places.ensures.each, c.loop-place-test.true)) c.index-elements-place.is c.index.ensures c.node_at-past.ensures here in
    throws_here (rendered c.args.depth s c.args.contexts.now) olds c.args.elements.now c.in_ok-places.places.items c.in_ok-places.ensures.are k c.loop-place.nodes.items c.in-Throws.value (place_seen c.in_ok-here.here) _ next (ap place_seen c.in-Throws.is) (c.loop-place.invariant.so_far s is gives)

pub render_list-returns-in-Waits-clause-goes : goal.render_list-returns-in-Waits-clause-goes
render_list-returns-in-Waits-clause-goes g t c = further c.args.shot.now.checked.now c.args.shot.now.lanes c.args.shot.now.cut (kept_hooks c.args.hooks.now) (kept_hooks c.loop-place.hooks) (kept_hooks c.render_place.new.hooks) c.loop-place.invariant.goes c.render_place.ensures.goes

pub render_list-returns-in-Throws-clause-goes : goal.render_list-returns-in-Throws-clause-goes
render_list-returns-in-Throws-clause-goes g t c = further c.args.shot.now.checked.now c.args.shot.now.lanes c.args.shot.now.cut (kept_hooks c.args.hooks.now) (kept_hooks c.loop-place.hooks) (kept_hooks c.render_place.new.hooks) c.loop-place.invariant.goes c.render_place.ensures.goes

pub render_list-returns-clause-places : goal.render_list-returns-clause-places
render_list-returns-clause-places g t c s is gives =
    all_done (rendered c.args.depth s c.args.contexts.now) (forest c.args.old.now) c.args.elements.now c.in_ok-places.places.items c.in_ok-places.ensures.are c.loop-place.place c.loop-place.nodes.items _
    (omega (arith, c.loop-place-test.false)) (omega (arith, c.in_ok-places.ensures.each, c.loop-place-test.false)) (c.loop-place.invariant.so_far s is gives)

pub render_list-loop-place-init : goal.render_list-loop-place-init
render_list-loop-place-init g t c = record { evaluated = c.requires.evaluated; goes = stays c.args.shot.now.checked.now c.args.shot.now.lanes c.args.shot.now.cut (kept_hooks c.args.hooks.now); so_far = λ s is gives. ap (λ ns. onto ns (render_list (rendered c.args.depth s c.args.contexts.now) c.args.elements.now (forest c.args.old.now))) c.in_ok-nodes.ensures.items }

pub render_node-render_list-requires : goal.render_node-render_list-requires
render_node-render_list-requires g t c κs sub = (omega (arith, c.decreases), (sub, (c.requires.drawn, (c.requires.kept, c.requires.evaluated))))

pub render_node-returns-clause-place : goal.render_node-returns-clause-place
render_node-returns-clause-place g t c =
    IfOk-weaker c.over.result _ _ (λ x e s is gives. e ∙ ap (over c.args.element.now (mark_seen c.args.mark)) (c.in_ok-places.ensures.places s is gives)) c.over.ensures

pub render_component-body_at-requires-clause-kept : goal.render_component-body_at-requires-clause-kept
render_component-body_at-requires-clause-kept g t c = kept_if (kept_hooks c.args.hooks.now) (option_copied c.args.old) c.number_of-number.result (c.number_of-number.ensures ∙ ap number_in c.in_ok-was.ensures) c.requires.kept

pub render_component-one-requires : goal.render_component-one-requires
render_component-one-requires g t c = small_wait c.args.shot.now.checked.now c.program.ensures.accepted c.args.component c.args.children.now (given_seen c.in_ok-body.body) c.in-Wait.resource _ c.in_ok-body.ensures.given (ap given_seen c.in-Wait.is)

pub render_component-returns-in-Wait-clause-place : goal.render_component-returns-in-Wait-clause-place
render_component-returns-in-Wait-clause-place g t c s is gives =
    ap waits c.one.ensures ∙ component_waits s c.args.contexts.now c.args.component c.args.props.now (gathered c.args.children.now) (option_copied c.args.old) (rendered c.args.depth s) c.args.element.now _ (given_seen c.in_ok-body.body) (c.in_ok-body.ensures.body s (old_instance (option_copied c.args.old)) (gathered c.args.children.now) is (sym (c.number_of-number.ensures ∙ ap number_in c.in_ok-was.ensures)) (gives_hooks s (kept_hooks c.args.hooks.now) (option_copied c.args.old) gives) (listed-gathered c.args.children.now)) (ap given_seen c.in-Wait.is) c.in-Wait.resource _ refl

pub render_component-returns-in-Throw-clause-place : goal.render_component-returns-in-Throw-clause-place
render_component-returns-in-Throw-clause-place g t c s is gives =
    component_throws s c.args.contexts.now c.args.component c.args.props.now (gathered c.args.children.now) (option_copied c.args.old) (rendered c.args.depth s) c.args.element.now _ (given_seen c.in_ok-body.body) (c.in_ok-body.ensures.body s (old_instance (option_copied c.args.old)) (gathered c.args.children.now) is (sym (c.number_of-number.ensures ∙ ap number_in c.in_ok-was.ensures)) (gives_hooks s (kept_hooks c.args.hooks.now) (option_copied c.args.old) gives) (listed-gathered c.args.children.now)) (ap given_seen c.in-Throw.is) c.in-Throw.value refl

pub render_component-render_node-requires : goal.render_component-render_node-requires
render_component-render_node-requires g t c κs sub = (
  omega (arith, c.decreases),
  (
    sub,
    (
      subst (λ es. AreDrawn c.args.shot.now.checked.now (gathered es)) (sym (c.deref-in-Ready.ensures.value ∙ ap (λ v. v.items) c.deref.ensures)) (drawn_body c.args.shot.now.checked.now c.program.ensures.accepted c.args.component c.args.children.now (given_seen c.in_ok-body.body) _ _ _ _ _ c.requires.drawn c.in_ok-body.ensures.given (ap given_seen c.in-Ready.is)),
      (keeps_trees c.args.shot.now.checked.now c.args.shot.now.lanes c.args.shot.now.cut (kept_hooks c.args.hooks.now) (kept_hooks c.body_at.new.hooks) c.body_at.ensures.goes (forest c.children_if-old.result.now) (keeps_children (kept_hooks c.args.hooks.now) (option_copied c.args.old) _ c.children_if-old.ensures c.requires.kept), c.body_at.ensures.evaluated),
    ),
  ),
)

pub render_component-returns-in_ok-instance-in-Ready-clause-place : goal.render_component-returns-in_ok-instance-in-Ready-clause-place
render_component-returns-in_ok-instance-in-Ready-clause-place g t c =
    IfOk-weaker c.render_node.result _ _ (λ x h s is gives.
    h s is (gives_trees c.args.shot.now s (kept_hooks c.args.hooks.now) (kept_hooks c.body_at.new.hooks) is c.body_at.ensures.goes (forest c.children_if-old.result.now) (gives_children s (kept_hooks c.args.hooks.now) (option_copied c.args.old) _ c.children_if-old.ensures gives))
    ∙ (λ i. over c.args.element.now (of_instance (c.in_ok-instance-in-Ready.ensures i)) (render_list (rendered c.args.depth s c.args.contexts.now) ((c.deref-in-Ready.ensures.value ∙ ap (λ v. v.items) c.deref.ensures) i) (c.children_if-old.ensures i)))
    ∙ ap (λ o. over c.args.element.now (of_instance (instance_after c.args.component o c.in-Ready.ready.initials.value c.in-Ready.ready.reads.value.items c.in-Ready.ready.versions.value.items c.in-Ready.ready.effects.value.items)) (render_list (rendered c.args.depth s c.args.contexts.now) c.in-Ready.ready.elements.value.items (children_if (option_copied c.args.old)))) c.in_ok-was.ensures
    ∙ component_ready s c.args.contexts.now c.args.component c.args.props.now (gathered c.args.children.now) (option_copied c.args.old) (rendered c.args.depth s) c.args.element.now _ (given_seen c.in_ok-body.body) (c.in_ok-body.ensures.body s (old_instance (option_copied c.args.old)) (gathered c.args.children.now) is (sym (c.number_of-number.ensures ∙ ap number_in c.in_ok-was.ensures)) (gives_hooks s (kept_hooks c.args.hooks.now) (option_copied c.args.old) gives) (listed-gathered c.args.children.now)) (ap given_seen c.in-Ready.is) _ _ _ _ _ refl)
    c.render_node.ensures.place

pub render_component-returns-in_ok-instance-in-Ready-clause-goes : goal.render_component-returns-in_ok-instance-in-Ready-clause-goes
render_component-returns-in_ok-instance-in-Ready-clause-goes g t c = further c.args.shot.now.checked.now c.args.shot.now.lanes c.args.shot.now.cut (kept_hooks c.args.hooks.now) (kept_hooks c.body_at.new.hooks) (kept_hooks c.render_node.new.hooks) c.body_at.ensures.goes c.render_node.ensures.goes

pub render_boundary-render_list-requires : goal.render_boundary-render_list-requires
render_boundary-render_list-requires g t c κs sub = (omega (arith, c.decreases), (sub, (c.requires.drawn, (keeps_children (kept_hooks c.args.hooks.now) (option_copied c.args.old) _ c.children_if-before.ensures c.requires.kept, c.requires.evaluated))))

pub render_boundary-render_list-requires-in-OneWaits : goal.render_boundary-render_list-requires-in-OneWaits
render_boundary-render_list-requires-in-OneWaits g t c κs sub = (
  omega (arith, c.decreases),
  (
    sub,
    (
      subst (λ es. AreDrawn c.args.shot.now.checked.now (gathered es)) (sym (c.deref.ensures.value ∙ c.in_ok-fallback-in-OneWaits.ensures)) (c.requires.falls, tt),
      (keeps_trees c.args.shot.now.checked.now c.args.shot.now.lanes c.args.shot.now.cut (kept_hooks c.args.hooks.now) (kept_hooks c.render_list.new.hooks) c.render_list.ensures.goes (forest c.fallback_if-before.result.now) (keeps_fallback (kept_hooks c.args.hooks.now) (option_copied c.args.old) _ c.fallback_if-before.ensures c.requires.kept), c.render_list.ensures.evaluated),
    ),
  ),
)

pub render_boundary-returns-in-AllMade-clause-place : goal.render_boundary-returns-in-AllMade-clause-place
render_boundary-returns-in-AllMade-clause-place g t c =
    IfOk-weaker c.node_with.result _ _ (λ x e s is gives.
    e ∙ (λ i. made (node c.args.element.now (of_boundary Shown) (forest c.in-AllMade.nodes.items) (forest (c.new.ensures.items i))))
    ∙ ap (λ ps. over_boundary c.args.element.now (option_copied c.args.old) ps (render_list (rendered c.args.depth s c.args.contexts.now) (c.args.fallback.now ∷ []) (fallback_if (option_copied c.args.old))))
    (ap places_seen (sym c.in-AllMade.is) ∙ (c.in_ok-places.ensures.places s is (gives_children s (kept_hooks c.args.hooks.now) (option_copied c.args.old) _ c.children_if-before.ensures gives)) ∙ ap (λ ns. render_list (rendered c.args.depth s c.args.contexts.now) c.args.primary.now ns) c.children_if-before.ensures))
    c.node_with.ensures

pub render_boundary-returns-in-OneThrows-clause-place : goal.render_boundary-returns-in-OneThrows-clause-place
render_boundary-returns-in-OneThrows-clause-place g t c s is gives =
    ap (λ ps. over_boundary c.args.element.now (option_copied c.args.old) ps (render_list (rendered c.args.depth s c.args.contexts.now) (c.args.fallback.now ∷ []) (fallback_if (option_copied c.args.old))))
    (ap places_seen (sym c.in-OneThrows.is) ∙ (c.in_ok-places.ensures.places s is (gives_children s (kept_hooks c.args.hooks.now) (option_copied c.args.old) _ c.children_if-before.ensures gives)) ∙ ap (λ ns. render_list (rendered c.args.depth s c.args.contexts.now) c.args.primary.now ns) c.children_if-before.ensures)

pub render_boundary-returns-in_ok-places-in-OneWaits-clause-place : goal.render_boundary-returns-in_ok-places-in-OneWaits-clause-place
render_boundary-returns-in_ok-places-in-OneWaits-clause-place g t c =
    IfOk-weaker c.hidden.result _ _ (λ x e s is gives.
    e
    ∙ ap (over_boundary c.args.element.now (option_copied c.args.old) (one_waits c.in-OneWaits.waits))
    (c.in_ok-places-in-OneWaits.ensures.places s is (gives_trees c.args.shot.now s (kept_hooks c.args.hooks.now) (kept_hooks c.render_list.new.hooks) is c.render_list.ensures.goes (forest c.fallback_if-before.result.now) (gives_fallback s (kept_hooks c.args.hooks.now) (option_copied c.args.old) _ c.fallback_if-before.ensures gives))
    ∙ (λ i. render_list (rendered c.args.depth s c.args.contexts.now) ((c.deref.ensures.value ∙ c.in_ok-fallback-in-OneWaits.ensures) i) (c.fallback_if-before.ensures i)))
    ∙ ap (λ ps. over_boundary c.args.element.now (option_copied c.args.old) ps (render_list (rendered c.args.depth s c.args.contexts.now) (c.args.fallback.now ∷ []) (fallback_if (option_copied c.args.old))))
    (ap places_seen (sym c.in-OneWaits.is) ∙ (c.in_ok-places.ensures.places s is (gives_children s (kept_hooks c.args.hooks.now) (option_copied c.args.old) _ c.children_if-before.ensures gives)) ∙ ap (λ ns. render_list (rendered c.args.depth s c.args.contexts.now) c.args.primary.now ns) c.children_if-before.ensures))
    c.hidden.ensures

pub render_boundary-returns-in_ok-places-in-OneWaits-clause-goes : goal.render_boundary-returns-in_ok-places-in-OneWaits-clause-goes
render_boundary-returns-in_ok-places-in-OneWaits-clause-goes g t c = further c.args.shot.now.checked.now c.args.shot.now.lanes c.args.shot.now.cut (kept_hooks c.args.hooks.now) (kept_hooks c.render_list.new.hooks) (kept_hooks c.render_list-in-OneWaits.new.hooks) c.render_list.ensures.goes c.render_list-in-OneWaits.ensures.goes

pub render_boundary-returns-in_err-places-in-OneWaits-clause-goes : goal.render_boundary-returns-in_err-places-in-OneWaits-clause-goes
render_boundary-returns-in_err-places-in-OneWaits-clause-goes g t c = further c.args.shot.now.checked.now c.args.shot.now.lanes c.args.shot.now.cut (kept_hooks c.args.hooks.now) (kept_hooks c.render_list.new.hooks) (kept_hooks c.render_list-in-OneWaits.new.hooks) c.render_list.ensures.goes c.render_list-in-OneWaits.ensures.goes

pub render_caught-render_node-requires : goal.render_caught-render_node-requires
render_caught-render_node-requires g t c κs sub = (omega (arith, c.decreases), (sub, (subst (λ es. AreDrawn c.args.shot.now.checked.now (gathered es)) (sym (c.deref.ensures.value ∙ c.in_ok-fallback.ensures)) (c.requires.falls, tt), (c.requires.kept, c.requires.evaluated))))

pub render_caught-returns-clause-place : goal.render_caught-returns-clause-place
render_caught-returns-clause-place g t c =
    IfOk-weaker c.render_node.result _ _ (λ x h s is gives. h s is gives ∙ ap (λ es. over c.args.element.now (of_catcher (Caught c.args.value)) (render_list (rendered c.args.depth s c.args.contexts.now) es (forest c.args.old.now))) (c.deref.ensures.value ∙ c.in_ok-fallback.ensures)) c.render_node.ensures.place

pub render_guarded-render_list-requires : goal.render_guarded-render_list-requires
render_guarded-render_list-requires g t c κs sub = (omega (arith, c.decreases), (sub, (c.requires.drawn, (c.requires.kept, c.requires.evaluated))))

pub render_guarded-render_caught-requires : goal.render_guarded-render_caught-requires
render_guarded-render_caught-requires g t c κs sub = (omega (arith, c.decreases), (sub, (c.requires.falls, (tt, c.render_list.ensures.evaluated))))

pub render_guarded-returns-in-AllMade-clause-place : goal.render_guarded-returns-in-AllMade-clause-place
render_guarded-returns-in-AllMade-clause-place g t c =
    IfOk-weaker c.node_with.result _ _ (λ x e s is gives.
    e ∙ (λ i. made (node c.args.element.now (of_catcher Fine) (forest c.in-AllMade.nodes.items) (forest (c.new.ensures.items i))))
    ∙ ap (λ ps. over_catcher c.args.element.now ps (render_list (rendered c.args.depth s c.args.contexts.now) (c.args.fallback.now ∷ []) none)) (ap places_seen (sym c.in-AllMade.is) ∙ (c.in_ok-places.ensures.places s is gives)))
    c.node_with.ensures

pub render_guarded-returns-in-OneWaits-clause-place : goal.render_guarded-returns-in-OneWaits-clause-place
render_guarded-returns-in-OneWaits-clause-place g t c s is gives =
    ap (λ ps. over_catcher c.args.element.now ps (render_list (rendered c.args.depth s c.args.contexts.now) (c.args.fallback.now ∷ []) none)) (ap places_seen (sym c.in-OneWaits.is) ∙ (c.in_ok-places.ensures.places s is gives))

pub render_guarded-returns-in-OneThrows-clause-place : goal.render_guarded-returns-in-OneThrows-clause-place
render_guarded-returns-in-OneThrows-clause-place g t c =
    IfOk-weaker c.render_caught.result _ _ (λ x h s is gives. h s is tt ∙ ap (λ ps. over_catcher c.args.element.now ps (render_list (rendered c.args.depth s c.args.contexts.now) (c.args.fallback.now ∷ []) none)) (ap places_seen (sym c.in-OneThrows.is) ∙ (c.in_ok-places.ensures.places s is gives))) c.render_caught.ensures.place

pub render_guarded-returns-in-OneThrows-clause-goes : goal.render_guarded-returns-in-OneThrows-clause-goes
render_guarded-returns-in-OneThrows-clause-goes g t c = further c.args.shot.now.checked.now c.args.shot.now.lanes c.args.shot.now.cut (kept_hooks c.args.hooks.now) (kept_hooks c.render_list.new.hooks) (kept_hooks c.render_caught.new.hooks) c.render_list.ensures.goes c.render_caught.ensures.goes

pub render_catcher-render_guarded-requires : goal.render_catcher-render_guarded-requires
render_catcher-render_guarded-requires g t c κs sub = (omega (arith, c.decreases), (sub, (c.requires.drawn, (c.requires.falls, (keeps_children (kept_hooks c.args.hooks.now) (option_copied c.args.old) _ c.children_if-before.ensures c.requires.kept, c.requires.evaluated)))))

pub render_catcher-render_caught-requires : goal.render_catcher-render_caught-requires
render_catcher-render_caught-requires g t c κs sub = (omega (arith, c.decreases), (sub, (c.requires.falls, (keeps_fallback (kept_hooks c.args.hooks.now) (option_copied c.args.old) _ c.fallback_if-before.ensures c.requires.kept, c.requires.evaluated))))

pub render_catcher-returns-in-None-clause-place : goal.render_catcher-returns-in-None-clause-place
render_catcher-returns-in-None-clause-place g t c =
    IfOk-weaker c.render_guarded.result _ _ (λ x h s is gives.
    h s is (gives_children s (kept_hooks c.args.hooks.now) (option_copied c.args.old) _ c.children_if-before.ensures gives)
    ∙ (λ i. over_catcher c.args.element.now (render_list (rendered c.args.depth s c.args.contexts.now) (sym (listed-gathered c.args.primary.now) i) (c.children_if-before.ensures i)) (render_list (rendered c.args.depth s c.args.contexts.now) (c.args.fallback.now ∷ []) none))
    ∙ ap (λ o. place_of (rendered c.args.depth s) c.args.element.now (option_copied c.args.old) (shape_of_catcher c.args.contexts.now c.args.fallback.now (gathered c.args.primary.now) (option_copied c.args.old) o)) (sym c.in-None.is ∙ c.old_caught.ensures))
    c.render_guarded.ensures.place

pub render_catcher-returns-in-Some-clause-place : goal.render_catcher-returns-in-Some-clause-place
render_catcher-returns-in-Some-clause-place g t c =
    IfOk-weaker c.render_caught.result _ _ (λ x h s is gives.
    h s is (gives_fallback s (kept_hooks c.args.hooks.now) (option_copied c.args.old) _ c.fallback_if-before.ensures gives)
    ∙ ap (λ ns. over c.args.element.now (of_catcher (Caught c.in-Some.value)) (render_list (rendered c.args.depth s c.args.contexts.now) (c.args.fallback.now ∷ []) ns)) c.fallback_if-before.ensures
    ∙ ap (λ o. place_of (rendered c.args.depth s) c.args.element.now (option_copied c.args.old) (shape_of_catcher c.args.contexts.now c.args.fallback.now (gathered c.args.primary.now) (option_copied c.args.old) o)) (sym c.in-Some.is ∙ c.old_caught.ensures))
    c.render_caught.ensures.place

pub render_place-render_element-requires : goal.render_place-render_element-requires
render_place-render_element-requires g t c κs sub = (omega (arith, c.decreases, c.if-depth-eq0.false), (sub, (c.requires.drawn, (c.requires.kept, c.requires.evaluated))))

pub render_place-returns-then-depth-eq0-clause-place : goal.render_place-returns-then-depth-eq0-clause-place
render_place-returns-then-depth-eq0-clause-place g t c s is gives = no_level s c.args.contexts.now c.args.element.now (option_copied c.args.old) c.args.depth c.if-depth-eq0.true

pub render_place-returns-then-depth-eq0-clause-goes : goal.render_place-returns-then-depth-eq0-clause-goes
render_place-returns-then-depth-eq0-clause-goes g t c = stays c.args.shot.now.checked.now c.args.shot.now.lanes c.args.shot.now.cut (kept_hooks c.args.hooks.now)

pub render_place-returns-clause-place : goal.render_place-returns-clause-place
render_place-returns-clause-place g t c =
    IfOk-weaker c.render_element.result _ _ (λ x h s is gives. h s is gives ∙ one_level s c.args.contexts.now c.args.element.now (option_copied c.args.old) c.args.depth _ (omega (arith, c.if-depth-eq0.false))) c.render_element.ensures.place

pub render_element-returns-in-Null-clause-place : goal.render_element-returns-in-Null-clause-place
render_element-returns-in-Null-clause-place g t c s is gives = ap (λ d. place_of (rendered c.args.depth s) c.args.element.now (option_copied c.args.old) (shape_of s c.args.contexts.now d (option_copied c.args.old))) (sym (sym c.kind.ensures ∙ ap element_seen c.in-Null.is))

pub render_element-text_place-requires : goal.render_element-text_place-requires
render_element-text_place-requires g t c = sym c.kind.ensures ∙ ap element_seen c.in-Text.is

pub render_element-returns-in-Text-clause-place : goal.render_element-returns-in-Text-clause-place
render_element-returns-in-Text-clause-place g t c =
    IfOk-weaker c.text_place.result _ _ (λ x e s is gives.
    e ∙ ap (λ d. place_of (rendered c.args.depth s) d (option_copied c.args.old) (shape_of s c.args.contexts.now d (option_copied c.args.old))) (sym (sym c.kind.ensures ∙ ap element_seen c.in-Text.is)))
    c.text_place.ensures

pub render_element-render_node-requires : goal.render_element-render_node-requires
render_element-render_node-requires g t c κs sub = (omega (arith, c.decreases), (sub, (subst (λ es. AreDrawn c.args.shot.now.checked.now (gathered es)) (sym c.deref.ensures.value) ((subst (IsDrawn c.args.shot.now.checked.now) (sym c.kind.ensures ∙ ap element_seen c.in-Host.is) c.requires.drawn)), (keeps_children (kept_hooks c.args.hooks.now) (option_copied c.args.old) _ c.children_if-before.ensures c.requires.kept, c.requires.evaluated))))

pub render_element-render_node-requires-in-List : goal.render_element-render_node-requires-in-List
render_element-render_node-requires-in-List g t c κs sub = (omega (arith, c.decreases), (sub, (subst (λ es. AreDrawn c.args.shot.now.checked.now (gathered es)) (sym c.deref-in-List.ensures.value) ((subst (IsDrawn c.args.shot.now.checked.now) (sym c.kind.ensures ∙ ap element_seen c.in-List.is) c.requires.drawn)), (keeps_children (kept_hooks c.args.hooks.now) (option_copied c.args.old) _ c.children_if-before-in-List.ensures c.requires.kept, c.requires.evaluated))))

pub render_element-render_node-requires-in-Provider : goal.render_element-render_node-requires-in-Provider
render_element-render_node-requires-in-Provider g t c κs sub = (omega (arith, c.decreases), (sub, (subst (λ es. AreDrawn c.args.shot.now.checked.now (gathered es)) (sym c.deref-in-Provider-2.ensures.value) ((subst (IsDrawn c.args.shot.now.checked.now) (sym c.kind.ensures ∙ ap element_seen c.in-Provider.is) c.requires.drawn).1), (keeps_children (kept_hooks c.args.hooks.now) (option_copied c.args.old) _ c.children_if-before-in-Provider.ensures c.requires.kept, c.requires.evaluated))))

pub render_element-returns-in-Host-clause-place : goal.render_element-returns-in-Host-clause-place
render_element-returns-in-Host-clause-place g t c =
    IfOk-weaker c.render_node.result _ _ (λ x h s is gives.
    h s is (gives_children s (kept_hooks c.args.hooks.now) (option_copied c.args.old) _ c.children_if-before.ensures gives)
    ∙ (λ i. over c.args.element.now (of_host (c.old_host.ensures i)) (render_list (rendered c.args.depth s c.args.contexts.now) ((c.deref.ensures.value ∙ sym (listed-gathered c.in-Host.children.items)) i) (c.children_if-before.ensures i)))
    ∙ ap (λ d. place_of (rendered c.args.depth s) c.args.element.now (option_copied c.args.old) (shape_of s c.args.contexts.now d (option_copied c.args.old))) (sym (sym c.kind.ensures ∙ ap element_seen c.in-Host.is)))
    c.render_node.ensures.place

pub render_element-returns-in-List-clause-place : goal.render_element-returns-in-List-clause-place
render_element-returns-in-List-clause-place g t c =
    IfOk-weaker c.render_node-in-List.result _ _ (λ x h s is gives.
    h s is (gives_children s (kept_hooks c.args.hooks.now) (option_copied c.args.old) _ c.children_if-before-in-List.ensures gives)
    ∙ (λ i. over c.args.element.now plain (render_list (rendered c.args.depth s c.args.contexts.now) ((c.deref-in-List.ensures.value ∙ sym (listed-gathered c.in-List.children.items)) i) (c.children_if-before-in-List.ensures i)))
    ∙ ap (λ d. place_of (rendered c.args.depth s) c.args.element.now (option_copied c.args.old) (shape_of s c.args.contexts.now d (option_copied c.args.old))) (sym (sym c.kind.ensures ∙ ap element_seen c.in-List.is)))
    c.render_node-in-List.ensures.place

pub render_element-returns-in_ok-below-in-Provider-clause-place : goal.render_element-returns-in_ok-below-in-Provider-clause-place
render_element-returns-in_ok-below-in-Provider-clause-place g t c =
    IfOk-weaker c.render_node-in-Provider.result _ _ (λ x h s is gives.
    h s is (gives_children s (kept_hooks c.args.hooks.now) (option_copied c.args.old) _ c.children_if-before-in-Provider.ensures gives)
    ∙ (λ i. over c.args.element.now plain (render_list (rendered c.args.depth s ((c.deref-in-Provider.ensures.value ∙ c.in_ok-below-in-Provider.ensures) i)) ((c.deref-in-Provider-2.ensures.value ∙ sym (listed-gathered c.in-Provider.children.items)) i) (c.children_if-before-in-Provider.ensures i)))
    ∙ ap (λ d. place_of (rendered c.args.depth s) c.args.element.now (option_copied c.args.old) (shape_of s c.args.contexts.now d (option_copied c.args.old))) (sym (sym c.kind.ensures ∙ ap element_seen c.in-Provider.is)))
    c.render_node-in-Provider.ensures.place

pub render_element-render_component-requires : goal.render_element-render_component-requires
render_element-render_component-requires g t c κs sub = (omega (arith, c.decreases), (sub, ((subst (IsDrawn c.args.shot.now.checked.now) (sym c.kind.ensures ∙ ap element_seen c.in-Comp.is) c.requires.drawn).0, (subst (λ es. AreDrawn c.args.shot.now.checked.now (gathered es)) (sym c.deref-in-Comp.ensures.value) ((subst (IsDrawn c.args.shot.now.checked.now) (sym c.kind.ensures ∙ ap element_seen c.in-Comp.is) c.requires.drawn).1), (c.requires.kept, c.requires.evaluated)))))

pub render_element-returns-in-Comp-clause-place : goal.render_element-returns-in-Comp-clause-place
render_element-returns-in-Comp-clause-place g t c =
    IfOk-weaker c.render_component.result _ _ (λ x h s is gives. h s is gives ∙ ap (λ es. place_of (rendered c.args.depth s) c.args.element.now (option_copied c.args.old) (shape_of_component s c.args.contexts.now c.in-Comp.component c.in-Comp.props (gathered es) (option_copied c.args.old) (component_at s.program c.in-Comp.component))) c.deref-in-Comp.ensures.value ∙ ap (λ d. place_of (rendered c.args.depth s) c.args.element.now (option_copied c.args.old) (shape_of s c.args.contexts.now d (option_copied c.args.old))) (sym (sym c.kind.ensures ∙ ap element_seen c.in-Comp.is))) c.render_component.ensures.place

pub render_element-render_boundary-requires : goal.render_element-render_boundary-requires
render_element-render_boundary-requires g t c κs sub = (omega (arith, c.decreases), (sub, (subst (λ es. AreDrawn c.args.shot.now.checked.now (gathered es)) (sym c.deref-in-Boundary.ensures.value) ((subst (IsDrawn c.args.shot.now.checked.now) (sym c.kind.ensures ∙ ap element_seen c.in-Boundary.is) c.requires.drawn).1), ((subst (IsDrawn c.args.shot.now.checked.now) (sym c.kind.ensures ∙ ap element_seen c.in-Boundary.is) c.requires.drawn).0, (c.requires.kept, c.requires.evaluated)))))

pub render_element-returns-in-Boundary-clause-place : goal.render_element-returns-in-Boundary-clause-place
render_element-returns-in-Boundary-clause-place g t c =
    IfOk-weaker c.render_boundary.result _ _ (λ x h s is gives.
    h s is gives
    ∙ ap (λ es. over_boundary c.args.element.now (option_copied c.args.old) (render_list (rendered c.args.depth s c.args.contexts.now) es (children_if (option_copied c.args.old))) (render_list (rendered c.args.depth s c.args.contexts.now) (c.in-Boundary.fallback ∷ []) (fallback_if (option_copied c.args.old)))) (c.deref-in-Boundary.ensures.value ∙ sym (listed-gathered c.in-Boundary.children.items))
    ∙ ap (λ d. place_of (rendered c.args.depth s) c.args.element.now (option_copied c.args.old) (shape_of s c.args.contexts.now d (option_copied c.args.old))) (sym (sym c.kind.ensures ∙ ap element_seen c.in-Boundary.is))) c.render_boundary.ensures.place

pub render_element-render_catcher-requires : goal.render_element-render_catcher-requires
render_element-render_catcher-requires g t c κs sub = (omega (arith, c.decreases), (sub, (subst (λ es. AreDrawn c.args.shot.now.checked.now (gathered es)) (sym c.deref-in-Catch.ensures.value) ((subst (IsDrawn c.args.shot.now.checked.now) (sym c.kind.ensures ∙ ap element_seen c.in-Catch.is) c.requires.drawn).1), ((subst (IsDrawn c.args.shot.now.checked.now) (sym c.kind.ensures ∙ ap element_seen c.in-Catch.is) c.requires.drawn).0, (c.requires.kept, c.requires.evaluated)))))

pub render_element-returns-in-Catch-clause-place : goal.render_element-returns-in-Catch-clause-place
render_element-returns-in-Catch-clause-place g t c =
    IfOk-weaker c.render_catcher.result _ _ (λ x h s is gives. h s is gives ∙ ap (λ es. place_of (rendered c.args.depth s) c.args.element.now (option_copied c.args.old) (shape_of_catcher c.args.contexts.now c.in-Catch.fallback (gathered es) (option_copied c.args.old) (old_caught (option_copied c.args.old)))) c.deref-in-Catch.ensures.value ∙ ap (λ d. place_of (rendered c.args.depth s) c.args.element.now (option_copied c.args.old) (shape_of s c.args.contexts.now d (option_copied c.args.old))) (sym (sym c.kind.ensures ∙ ap element_seen c.in-Catch.is))) c.render_catcher.ensures.place

pub render_element-returns-in-Null-clause-goes : goal.render_element-returns-in-Null-clause-goes
render_element-returns-in-Null-clause-goes g t c = stays c.args.shot.now.checked.now c.args.shot.now.lanes c.args.shot.now.cut (kept_hooks c.args.hooks.now)

pub render_list-returns-then-same_texts-clause-places : goal.render_list-returns-then-same_texts-clause-places
render_list-returns-then-same_texts-clause-places g t c s is gives =
    let old = c.args.old.now in
    ap (λ ns. all_made (forest ns)) c.in_ok-kept.ensures
    ∙ texts_stay s c.args.contexts.now c.args.depth (omega (arith, c.if-depth-gt0.true)) (forest old) c.args.elements.now (c.same_texts.ensures c.if-same_texts.true)

pub render_list-returns-in_err-here-clause-goes : goal.render_list-returns-in_err-here-clause-goes
render_list-returns-in_err-here-clause-goes g t c = further c.args.shot.now.checked.now c.args.shot.now.lanes c.args.shot.now.cut (kept_hooks c.args.hooks.now) (kept_hooks c.loop-place.hooks) (kept_hooks c.render_place.new.hooks) c.loop-place.invariant.goes c.render_place.ensures.goes

pub render_list-returns-in_err-push-in-Empty-clause-goes : goal.render_list-returns-in_err-push-in-Empty-clause-goes
render_list-returns-in_err-push-in-Empty-clause-goes g t c = further c.args.shot.now.checked.now c.args.shot.now.lanes c.args.shot.now.cut (kept_hooks c.args.hooks.now) (kept_hooks c.loop-place.hooks) (kept_hooks c.render_place.new.hooks) c.loop-place.invariant.goes c.render_place.ensures.goes

pub render_list-returns-in_err-push-in-Made-clause-goes : goal.render_list-returns-in_err-push-in-Made-clause-goes
render_list-returns-in_err-push-in-Made-clause-goes g t c = further c.args.shot.now.checked.now c.args.shot.now.lanes c.args.shot.now.cut (kept_hooks c.args.hooks.now) (kept_hooks c.loop-place.hooks) (kept_hooks c.render_place.new.hooks) c.loop-place.invariant.goes c.render_place.ensures.goes
