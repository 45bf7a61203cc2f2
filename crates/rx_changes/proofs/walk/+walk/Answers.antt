use Rattle.std.proofs.Common.{◌∙◌, ap, sym, arith, false, flat_map}
use Rattle.std.proofs.lemmas.Result.{on_ok_weaker}
use Rattle.rx_elem.specs.Trees.{forest, elements_in, height, mark_of}
use Rattle.rx_elem.specs.Compare.{Past, change_of, pasts, gone_from, compare_in}
use Rattle.rx_elem.specs.Spots.{around_children, at_root}
use Rattle.rx_effect.specs.EffectLog.{destroyed_in}
use Rattle.rx_node.proofs.Listing.{height-get}
use Rattle.rx_compare.specs.ComparedView.{past_seen}
use Rattle.rx_compare.proofs.InPlaceLists.{in_place-front, in_place-length, stays}
use Rattle.rx_changes.specs.ChangesView.{changes_seen}
use Rattle.rx_changes.specs.Found.{hiding, logged, no_effects, with_effects, with_list, with_node}
use Rattle.rx_changes.specs.StepView.{level_seen, step_seen}
use Rattle.rx_changes.proofs.Bare.{children-below, in_place-gone, leaf-around, leaf-below, texts-around}
use Rattle.rx_changes.proofs.Texts.{texts-below}
use Rattle.rx_changes.proofs.Walking.{below-parts, compare-step, list-child, list-vacant, list-end, node-parts}
use Rattle.rx_changes.proofs.walk.+walk.Goals as goal
use Rattle.rx_changes.proofs.walk.+walk.Goals.{add_in_place-in-Some+in_ok-add_node, add_in_place-in_default, add_list-in-Some+in_ok-add_node, add_list-in_default}

pub add_in_place-bounds-old-place : goal.add_in_place-bounds-old-place
add_in_place-bounds-old-place t c = omega (arith, in_place-length c.args.old.now c.args.new.now c.requires, c.loop-place-test.true)

pub add_in_place-add_node-requires : goal.add_in_place-add_node-requires
add_in_place-add_node-requires t c =
    (omega (arith, c.decreases, ap (λ d. height d.new) (c.new.ensures.is at_root), height-get c.args.new.now c.loop-place.place c.in-Some.node _ c.loop-place-test.true (sym c.in-Some.is ∙ c.index-new-place.is)), tt)

pub add_in_place-loop-place-preserved : goal.add_in_place-loop-place-preserved
add_in_place-loop-place-preserved t c = λ a.
    let level = level_seen a c.args.level in
    let logs = c.args.level.logs in
    let old = c.args.old.now in
    let new = c.args.new.now in
    let k = c.loop-place.place in
    let ps = pasts (forest old) (elements_in (forest new)) in
    let here = c.loop-place-test.true in
    let before = changes_seen c.loop-place.found in
    let after = changes_seen c.match-new-place.found in
    elim c.match-new-place.branch [
      | add_in_place-in-Some+in_ok-add_node w ↦
          let p : Past = stays w.index-old-place.result in
          let node = w.in-Some.node in
          let is = w.new.ensures.is a ∙ ap (λ o. change_of level (record { old = o; moved = false }) node) w.as_ref.ensures.value in
          list-child level ps new k c.index-new-place.result p node logs before after _ here c.index-new-place.is w.in-Some.is
          (in_place-front old new k w.index-old-place.result c.requires (omega (arith, in_place-length old new c.requires, here)) w.index-old-place.is)
          (ap changes_seen w.found-is
          ∙ w.in_ok-add_node.ensures a
          ∙ (λ i. with_node (w.new.ensures.logs i) (compare-step level p node (step_seen a w.new.result) is i) before))
          (c.loop-place.invariant a)
      | add_in_place-in_default w ↦
          list-vacant level ps new k c.index-new-place.result logs before after _ here c.index-new-place.is w.in_default.is (ap changes_seen w.found-is) (c.loop-place.invariant a)
    ]

pub add_in_place-returns : goal.add_in_place-returns
add_in_place-returns t c = λ a.
    list-end (level_seen a c.args.level) (pasts (forest c.args.old.now) (elements_in (forest c.args.new.now))) c.args.new.now c.loop-place.place c.args.level.logs
    (changes_seen c.loop-place.found) _ (omega (arith, c.loop-place-test.false)) (c.loop-place.invariant a)

pub add_list-add_node-requires : goal.add_list-add_node-requires
add_list-add_node-requires t c =
    (omega (arith, c.decreases, ap (λ d. height d.new) (c.new.ensures.is at_root), height-get c.args.new.now c.loop-place.place c.in-Some.node _ c.loop-place-test.true (sym c.in-Some.is ∙ c.index-new-place.is)), tt)

pub add_list-loop-place-preserved : goal.add_list-loop-place-preserved
add_list-loop-place-preserved t c = λ a.
    let level = level_seen a c.args.level in
    let logs = c.args.level.logs in
    let new = c.args.new.now in
    let k = c.loop-place.place in
    let ps = pasts (forest c.args.old.now) (elements_in (forest new)) in
    let here = c.loop-place-test.true in
    let before = changes_seen c.loop-place.found in
    let after = changes_seen c.match-new-place.found in
    elim c.match-new-place.branch [
      | add_list-in-Some+in_ok-add_node w ↦
          let p = past_seen w.past-known.result in
          let node = w.in-Some.node in
          list-child level ps new k c.index-new-place.result p node logs before after _ here c.index-new-place.is w.in-Some.is
          (w.past-known.ensures new c.requires here)
          (ap changes_seen w.found-is
          ∙ w.in_ok-add_node.ensures a
          ∙ (λ i. with_node (w.new.ensures.logs i) (compare-step level p node (step_seen a w.new.result) (w.new.ensures.is a) i) before))
          (c.loop-place.invariant a)
      | add_list-in_default w ↦
          list-vacant level ps new k c.index-new-place.result logs before after _ here c.index-new-place.is w.in_default.is (ap changes_seen w.found-is) (c.loop-place.invariant a)
    ]

pub add_list-returns : goal.add_list-returns
add_list-returns t c = λ a.
    list-end (level_seen a c.args.level) (pasts (forest c.args.old.now) (elements_in (forest c.args.new.now))) c.args.new.now c.loop-place.place c.args.level.logs
    (changes_seen c.loop-place.found) _ (omega (arith, c.loop-place-test.false)) (c.loop-place.invariant a)

pub add_kids-returns-then-are_in_place : goal.add_kids-returns-then-are_in_place
add_kids-returns-then-are_in_place t c =
    let old = forest c.args.old.now in
    let new = forest c.args.new.now in
    on_ok_weaker c.add_in_place.result
    (λ e a. e a
    ∙ ap (with_list c.args.level.logs (compare_in (level_seen a c.args.level) (pasts old (elements_in new)) new))
    (in_place-gone c.args.logs c.args.level.was_visible old new (changes_seen c.args.found.now) (c.are_in_place.ensures c.if-are_in_place.true)))
    c.add_in_place.ensures

pub add_kids-returns : goal.add_kids-returns
add_kids-returns t c =
    let old = forest c.args.old.now in
    let new = forest c.args.new.now in
    on_ok_weaker c.add_list.result
    (λ e a. e a
    ∙ ap (with_list c.args.level.logs (compare_in (level_seen a c.args.level) (pasts old (elements_in new)) new))
    (c.in_ok-add_gone.ensures new c.in_ok-match_nodes.ensures))
    c.add_list.ensures

pub add_children-returns : goal.add_children-returns
add_children-returns t c =
    let logs = c.args.change.now.logs in
    let f = changes_seen c.args.found.now in
    on_ok_weaker c.add_hiding.result
    (λ e a.
    let d = step_seen a c.args.change.now in
    e
    ∙ ap (with_effects (logged logs (hiding d)) no_effects)
    (c.in_ok-add_kids.ensures (around_children a (mark_of d.new))
    ∙ (λ i. with_list (c.level_below.ensures.logs i)
    (compare_in (c.level_below.ensures.is a i) (pasts (c.children_if-old.ensures i) (elements_in (c.children-kids.ensures.all i))) (c.children-kids.ensures.all i))
    (with_effects (logged logs (λ q. flat_map (destroyed_in q) (gone_from (c.level_below.ensures.is a i).was_visible (c.children_if-old.ensures i) (c.children-kids.ensures.all i)))) no_effects f))))
    c.add_hiding.ensures

pub add_both-returns : goal.add_both-returns
add_both-returns t c =
    let logs = c.args.change.now.logs in
    let f1 = changes_seen c.args.found.now in
    let f2 = changes_seen c.add_gone.new.found in
    let f3 = changes_seen c.add_gone-2.new.found in
    let f4 = changes_seen c.add_list.new.found in
    let f5 = changes_seen c.add_hiding.new.found in
    on_ok_weaker c.add_list-2.result
    (λ e a.
    let d = step_seen a c.args.change.now in
    below-parts logs d f1 f2 f3 f4 f5 (changes_seen c.add_list-2.new.found)
    (c.in_ok-add_gone.ensures (forest c.children-kids.result.now) c.in_ok-pairs.ensures
    ∙ (λ i. with_effects (logged logs (λ q. flat_map (destroyed_in q) (gone_from (c.level_below-below.ensures.is a i).was_visible (c.children_if-old.ensures i) (c.children-kids.ensures.all i)))) no_effects f1))
    (c.in_ok-add_gone-2.ensures (forest c.fallback-others.result.now) c.in_ok-rest.ensures
    ∙ (λ i. with_effects (logged logs (λ q. flat_map (destroyed_in q) (gone_from d.was_visible (c.fallback_if-behind.ensures i) (c.fallback-others.ensures.all i)))) no_effects f2))
    (c.in_ok-add_list.ensures (around_children a (mark_of d.new))
    ∙ (λ i. with_list (c.level_below-below.ensures.logs i)
    (compare_in (c.level_below-below.ensures.is a i) (pasts (c.children_if-old.ensures i) (elements_in (c.children-kids.ensures.all i))) (c.children-kids.ensures.all i)) f3))
    c.in_ok-add_hiding.ensures
    (e a
    ∙ (λ i. with_list (c.level_beside-beside.ensures.logs i)
    (compare_in (c.level_beside-beside.ensures.is a i) (pasts (c.fallback_if-behind.ensures i) (elements_in (c.fallback-others.ensures.all i))) (c.fallback-others.ensures.all i)) f5)))
    c.add_list-2.ensures

pub add_below-returns-then-is_leaf : goal.add_below-returns-then-is_leaf
add_below-returns-then-is_leaf t c = λ a.
    leaf-below c.args.change.now.logs (step_seen a c.args.change.now) (changes_seen c.args.found.now)
    (leaf-around a (step_seen at_root c.args.change.now) (c.is_leaf.ensures c.if-is_leaf.true))

pub add_below-returns-then-has_texts_in_place : goal.add_below-returns-then-has_texts_in_place
add_below-returns-then-has_texts_in_place t c = λ a.
    texts-below c.args.change.now.logs (step_seen a c.args.change.now) (changes_seen c.args.found.now)
    (texts-around a (step_seen at_root c.args.change.now) (c.has_texts_in_place.ensures c.if-has_texts_in_place.true))

pub add_below-returns-then-has_no_fallback : goal.add_below-returns-then-has_no_fallback
add_below-returns-then-has_no_fallback t c =
    on_ok_weaker c.add_children.result
    (λ e a. e a
    ∙ children-below c.args.change.now.logs (step_seen a c.args.change.now) (changes_seen c.args.found.now)
    (c.has_no_fallback.ensures.behind c.if-has_no_fallback.true) (c.has_no_fallback.ensures.beside c.if-has_no_fallback.true))
    c.add_children.ensures

pub add_node-returns : goal.add_node-returns
add_node-returns t c =
    on_ok_weaker c.add_effects.result
    (λ e a. node-parts c.args.change.now.logs (step_seen a c.args.change.now) (changes_seen c.args.found.now)
    (changes_seen c.add_change.new.found) (changes_seen c.add_below.new.found) (changes_seen c.add_effects.new.found)
    c.in_ok-add_change.ensures (c.in_ok-add_below.ensures a) e)
    c.add_effects.ensures
