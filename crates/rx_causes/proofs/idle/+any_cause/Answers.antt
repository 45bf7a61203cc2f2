use Rattle.std.specs.Prelude.{option_and_then}
use Rattle.std.proofs.Common.{◌≡◌, true, false, refl, sym, ◌∙◌, subst, inl, inr, arith, IfSome}
use Rattle.rx_lists.specs.Shapes.{Holds, first}
use Rattle.rx_links.specs.Drafts.{kids_of}
use Rattle.rx_elem.specs.Trees.{instance_in}
use Rattle.rx_ways.specs.Ways.{is_way}
use Rattle.rx_hook_store.specs.Store.{kept_hooks}
use Rattle.rx_links.specs.Readers.{rest_of}
use Rattle.rx_fiber.proofs.OldReads.{some_held, kids_held, rest_held}
use Rattle.rx_causes.specs.Scenes.{KeepsHooks}
use Rattle.rx_causes.specs.Idle.{HasNoCauseAt, LeadsAt}
use Rattle.rx_causes.proofs.Free.{passed_here}
use Rattle.rx_causes.proofs.Walks.{child_smaller, each_parts, but_joins, some_joins, behind_smaller}
use Rattle.rx_causes.proofs.idle.+any_cause.Goals as goal
use Rattle.rx_causes.proofs.idle.+any_cause.Goals.{in-Pass, in-Cause, in-Below}

pub any_cause-found-requires : goal.any_cause-found-requires
any_cause-found-requires t c =
    let trees = c.args.tree.now.current in
    let linked = c.facts.ensures.linked in
    let i = c.in-Some.id in
    let held = some_held trees c.walking.next i c.walking.invariant.held c.in-Some.is in
    let v = c.value-fiber.result.now in
    let here = c.value-fiber.ensures.current held in
    let child = c.first_child.result in
    let child_is = c.first_child.ensures.current held in
    let behind = first (rest_of trees i) in
    let next = c.walking.next in
    let smaller = child_smaller trees linked i held v here child child_is behind refl next c.in-Some.is in (
      omega (arith, c.decreases, c.walking.invariant.within, smaller),
      (
        subst (λ o. IfSome o (Holds trees)) (sym child_is) (kids_held trees linked i held),
        (c.requires.gathered, (each_parts trees linked i held v here child child_is behind refl next c.in-Some.is (λ m. KeepsHooks (kept_hooks c.args.hooks.now) (option_and_then instance_in m)) c.walking.invariant.kept).1),
      ),
    )

pub walking-preserved : goal.walking-preserved
walking-preserved t c =
    let trees = c.args.tree.now.current in
    let linked = c.facts.ensures.linked in
    let i = c.in-Some.id in
    let held = some_held trees c.walking.next i c.walking.invariant.held c.in-Some.is in
    let v = c.value-fiber.result.now in
    let here = c.value-fiber.ensures.current held in
    let child = first (kids_of trees i) in
    let behind = c.next_sibling-next.result in
    let behind_is = c.next_sibling-next.ensures.current held in
    let next = c.walking.next in
    let smaller = behind_smaller trees linked i held v here child refl behind behind_is next c.in-Some.is in
    let Free = HasNoCauseAt (kept_hooks c.args.hooks.now) c.args.scene.now.lanes c.args.scene.now.cut in
    let way = is_way c.args.scene.now.ways.now in
    record {
      held = subst (λ o. IfSome o (Holds trees)) (sym behind_is) (rest_held trees linked i held);
      kept = (each_parts trees linked i held v here child refl behind behind_is next c.in-Some.is (λ m. KeepsHooks (kept_hooks c.args.hooks.now) (option_and_then instance_in m)) c.walking.invariant.kept).2;
      none = λ rest.
          c.walking.invariant.none
          (elim c.match-turn_at.branch [
            | in-Pass w ↦
                but_joins trees linked i held v here child refl behind behind_is next c.in-Some.is way Free
                (passed_here trees linked c.requires.gathered i held v here child refl behind behind_is way (kept_hooks c.args.hooks.now) c.args.scene.now.lanes c.args.scene.now.cut (c.turn_at.ensures.passed w.in-Pass.is)) rest
            | in-Cause w ↦ absurd (let q : true ≡ false = sym w.found-is ∙ c.if-found.false in let r : ⊥ = cc in r)
            | in-Below w ↦
                but_joins trees linked i held v here w.first_child.result (w.first_child.ensures.current held) behind behind_is next c.in-Some.is way Free
                (inr (c.turn_at.ensures.none w.in-Below.is, w.any_cause-found.ensures.none (sym w.found-is ∙ c.if-found.false))) rest
          ]);
      some = λ rest.
          c.walking.invariant.some
          (some_joins trees linked i held v here child refl behind behind_is next c.in-Some.is (LeadsAt way (kept_hooks c.args.hooks.now) c.args.scene.now.lanes c.args.scene.now.cut) (inr (inr rest)));
      within = omega (arith, c.walking.invariant.within, smaller);
    }

pub returns-then-found-clause-some : goal.returns-then-found-clause-some
returns-then-found-clause-some t c found =
    let trees = c.args.tree.now.current in
    let linked = c.facts.ensures.linked in
    let i = c.in-Some.id in
    let held = some_held trees c.walking.next i c.walking.invariant.held c.in-Some.is in
    let v = c.value-fiber.result.now in
    let here = c.value-fiber.ensures.current held in
    let child = first (kids_of trees i) in
    let behind = first (rest_of trees i) in
    let Leads = LeadsAt (is_way c.args.scene.now.ways.now) (kept_hooks c.args.hooks.now) c.args.scene.now.lanes c.args.scene.now.cut in
    c.walking.invariant.some
    (elim c.match-turn_at.branch [
      | in-Pass w ↦ absurd (let q : false ≡ true = sym w.found-is ∙ c.if-found.true in let r : ⊥ = cc in r)
      | in-Cause w ↦ some_joins trees linked i held v here child refl behind refl c.walking.next c.in-Some.is Leads (inl (c.turn_at.ensures.leads w.in-Cause.is))
      | in-Below w ↦
          some_joins trees linked i held v here w.first_child.result (w.first_child.ensures.current held) behind refl c.walking.next c.in-Some.is Leads
          (inr (inl (w.any_cause-found.ensures.some (sym w.found-is ∙ c.if-found.true))))
    ])
