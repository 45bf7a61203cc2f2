use Rattle.std.specs.Prelude.{Option, option_and_then}
use Rattle.std.proofs.Common.{refl, sym, subst, inl, inr, arith, IfSome}
use Rattle.rx_elem.specs.Trees.{Mark, instance_in}
use Rattle.rx_lists.specs.Shapes.{Holds, first}
use Rattle.rx_links.specs.Drafts.{kids_of}
use Rattle.rx_hook_store.specs.Store.{kept_hooks}
use Rattle.rx_links.specs.Readers.{list_from, rest_of}
use Rattle.rx_fiber.proofs.OldReads.{some_held, kids_held, rest_held}
use Rattle.rx_causes.specs.Scenes.{KeepsHooks}
use Rattle.rx_causes.specs.Hidden.{ForSomeFiber, HasNews, HasNoNews}
use Rattle.rx_causes.proofs.Walks.{stage_here, child_smaller, each_parts, each_joins, some_joins, behind_smaller}
use Rattle.rx_causes.proofs.hidden.+any_news.Goals.{then-has_news-via-then-has_news, then-has_news-via-else-has_news+then-any_news}
use Rattle.rx_causes.proofs.hidden.+any_news.Goals as goal

pub any_news-requires : goal.any_news-requires
any_news-requires t c =
    let trees = c.args.tree.now.current in
    let linked = c.facts.ensures.linked in
    let i = c.in-Some.id in
    let held = some_held trees c.walking.next i c.walking.invariant.held c.in-Some.is in
    let v = c.value.result.now in
    let here = c.value.ensures.current held in
    let child = c.first_child.result in
    let child_is = c.first_child.ensures.current held in
    let behind = first (rest_of trees i) in
    let next = c.walking.next in
    let smaller = child_smaller trees linked i held v here child child_is behind refl next c.in-Some.is in (
      omega (arith, c.decreases, c.walking.invariant.within, smaller),
      (
        subst (λ o. IfSome o (Holds trees)) (sym child_is) (kids_held trees linked i held),
        (each_parts trees linked i held v here child child_is behind refl next c.in-Some.is (λ m. KeepsHooks (kept_hooks c.args.hooks.now) (option_and_then instance_in m)) c.walking.invariant.kept).1,
      ),
    )

pub returns-then-has_news-clause-some : goal.returns-then-has_news-clause-some
returns-then-has_news-clause-some t c so =
    let trees = c.args.tree.now.current in
    let linked = c.facts.ensures.linked in
    let i = c.in-Some.id in
    let held = some_held trees c.walking.next i c.walking.invariant.held c.in-Some.is in
    let v = c.value.result.now in
    let here = c.value.ensures.current held in
    let child = first (kids_of trees i) in
    let behind = first (rest_of trees i) in
    let next = c.walking.next in
    let News : Option Mark → Type 0 = (λ m. HasNews (kept_hooks c.args.hooks.now) c.args.scene.now.lanes c.args.scene.now.cut (option_and_then instance_in m)) in
    c.walking.invariant.some
    (some_joins trees linked i held v here child refl behind refl next c.in-Some.is News
    (elim c.then-has_news.branch [
      | then-has_news-via-then-has_news w ↦ inl (stage_here trees linked i held v here child refl behind refl next c.in-Some.is News _ c.stage.ensures (c.has_news.ensures.some w.if-has_news.true))
      | then-has_news-via-else-has_news+then-any_news w ↦
          inr (inl (subst (λ o. ForSomeFiber (HasNews (kept_hooks c.args.hooks.now) c.args.scene.now.lanes c.args.scene.now.cut) (list_from trees o)) (w.first_child.ensures.current held) (w.any_news.ensures.some w.if-any_news.true)))
    ]))

pub walking-preserved : goal.walking-preserved
walking-preserved t c =
    let trees = c.args.tree.now.current in
    let linked = c.facts.ensures.linked in
    let i = c.in-Some.id in
    let held = some_held trees c.walking.next i c.walking.invariant.held c.in-Some.is in
    let v = c.value.result.now in
    let here = c.value.ensures.current held in
    let child = c.first_child.result in
    let child_is = c.first_child.ensures.current held in
    let behind = c.next_sibling-next.result in
    let behind_is = c.next_sibling-next.ensures.current held in
    let next = c.walking.next in
    let smaller = behind_smaller trees linked i held v here child child_is behind behind_is next c.in-Some.is in
    let Quiet : Option Mark → Type 0 = (λ m. HasNoNews (kept_hooks c.args.hooks.now) c.args.scene.now.lanes c.args.scene.now.cut (option_and_then instance_in m)) in
    record {
      held = subst (λ o. IfSome o (Holds trees)) (sym behind_is) (rest_held trees linked i held);
      kept = (each_parts trees linked i held v here child child_is behind behind_is next c.in-Some.is (λ m. KeepsHooks (kept_hooks c.args.hooks.now) (option_and_then instance_in m)) c.walking.invariant.kept).2;
      none = λ rest.
          c.walking.invariant.none
          (each_joins trees linked i held v here child child_is behind behind_is next c.in-Some.is Quiet
          (stage_here trees linked i held v here child child_is behind behind_is next c.in-Some.is Quiet _ c.stage.ensures (c.has_news.ensures.none c.if-has_news.false)) (c.any_news.ensures.none c.if-any_news.false) rest);
      some = λ rest.
          c.walking.invariant.some
          (some_joins trees linked i held v here child child_is behind behind_is next c.in-Some.is (λ m. HasNews (kept_hooks c.args.hooks.now) c.args.scene.now.lanes c.args.scene.now.cut (option_and_then instance_in m)) (inr (inr rest)));
      within = omega (arith, c.walking.invariant.within, smaller);
    }
