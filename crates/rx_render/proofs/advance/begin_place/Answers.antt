use Rattle.std.specs.Prelude.{◌≡◌, false, true, IsSome, if◌then◌else◌}
use Rattle.std.proofs.Common.{refl, sym, ap, subst}
use Rattle.rx_base.specs.Awaits.{Awaits}
use Rattle.rx_elem.specs.Trees.{children_of}
use Rattle.rx_causes.specs.Hidden.{ForEachIn}
use Rattle.rx_causes.specs.Idle.{Rests}
use Rattle.rx_causes.specs.Marks.{EachBut}
use Rattle.rx_causes.specs.Scenes.{TellsNews}
use Rattle.rx_children.specs.declared.node.Begun.{Begun}
use Rattle.rx_children.specs.declared.node.Begun.TheVariants as answers
use Rattle.rx_hook_store.specs.Store.{kept_hooks}
use Rattle.rx_ways.specs.Ways.{is_way}
use Rattle.rx_begin.specs.Beginning.{BeginsPlace, awaited_again, is_taken}
use Rattle.rx_render.specs.declared.at.At.TheVariants.{Begins}
use Rattle.rx_render.specs.Advancing.{at_opened, Advances}
use Rattle.rx_render.proofs.Advancing.{can_begin, waits_below, throws_below, child_advances, leaf_advances, throws_advances, waits_advances, hidden_left, hidden_tried, hidden_advances, taken_made, taken_advances, opened_comes}
use Rattle.rx_fiber.specs.Subtrees.{IsGathered}
use Rattle.rx_links.specs.Drafts.{Trees}
use Rattle.rx_fiber.specs.Fibers.{Fiber, as_cloned}
use Rattle.rx_render.specs.Gathers.{IsGathering}
use Rattle.rx_render.proofs.Gathering.{child_gathered, leaf_gathered, again_gathered, passed_gathered, taken_node}
use Rattle.rx_render.proofs.Guarded.{throws_guarded}
use Rattle.rx_render.proofs.Paying.{again_flags, child_paid, leaf_paid, passed_flags, throws_paid, waits_paid}
use Rattle.rx_render.proofs.advance.begin_place.Goals as goal

pub begin-requires-clause-place : goal.begin-requires-clause-place
begin-requires-clause-place g c = can_begin c.args.scene.now (kept_hooks c.args.hooks.now) c.args.tree.now c.args.contexts.now c.args.id c.requires

pub begin-requires-clause-gathered : goal.begin-requires-clause-gathered
begin-requires-clause-gathered g c = c.requires.gathered

pub suspend-requires : goal.suspend-requires
suspend-requires g c =
    waits_below c.args.scene.now (kept_hooks c.args.hooks.now) c.args.tree.now c.args.contexts.now c.begin.new.tree c.begin.new.contexts c.args.id c.in-Suspended.resource c.requires
    (λ s sees. subst (BeginsPlace s (is_way c.args.scene.now.ways.now) (kept_hooks c.args.hooks.now) c.args.tree.now c.args.contexts.now c.begin.new.tree c.begin.new.contexts c.args.id) c.in-Suspended.is (c.in_ok-begun.ensures.begun s sees))

pub throw_out-requires-clause-below : goal.throw_out-requires-clause-below
throw_out-requires-clause-below g c =
    throws_below c.args.scene.now (kept_hooks c.args.hooks.now) c.args.tree.now c.args.contexts.now c.begin.new.tree c.begin.new.contexts c.args.id c.in-Thrown.value c.requires
    (λ s sees. subst (BeginsPlace s (is_way c.args.scene.now.ways.now) (kept_hooks c.args.hooks.now) c.args.tree.now c.args.contexts.now c.begin.new.tree c.begin.new.contexts c.args.id) c.in-Thrown.is (c.in_ok-begun.ensures.begun s sees))

pub throw_out-requires-clause-guarded : goal.throw_out-requires-clause-guarded
throw_out-requires-clause-guarded g c =
    throws_guarded c.args.scene.now (kept_hooks c.args.hooks.now) c.args.tree.now c.args.contexts.now c.begin.new.tree c.begin.new.contexts c.args.id c.in-Thrown.value c.facts.ensures.fits c.requires
    (λ s sees. subst (BeginsPlace s (is_way c.args.scene.now.ways.now) (kept_hooks c.args.hooks.now) c.args.tree.now c.args.contexts.now c.begin.new.tree c.begin.new.contexts c.args.id) c.in-Thrown.is (c.in_ok-begun.ensures.begun s sees))

pub returns-in-Child-clause-comes : goal.returns-in-Child-clause-comes
returns-in-Child-clause-comes g c s sees =
    child_advances s (is_way c.args.scene.now.ways.now) (kept_hooks c.args.hooks.now) c.args.tree.now c.args.contexts.now c.begin.new.tree c.begin.new.contexts c.args.id _ (λ n fs cs e old. c.in_ok-begun.ensures.few s n fs cs e old sees) c.in-Child.child
    (subst (BeginsPlace s (is_way c.args.scene.now.ways.now) (kept_hooks c.args.hooks.now) c.args.tree.now c.args.contexts.now c.begin.new.tree c.begin.new.contexts c.args.id) c.in-Child.is (c.in_ok-begun.ensures.begun s sees))
    (child_paid s c.args.scene.now sees (kept_hooks c.args.hooks.now) c.args.tree.now c.args.contexts.now c.args.id c.in_ok-begun.evaluated c.facts.ensures.fits
    (record { none = c.in_ok-begun.ensures.none; some = c.in_ok-begun.ensures.body }) (λ n fs cs e old. c.in_ok-begun.ensures.few s n fs cs e old sees) (λ v there none same stood. c.in_ok-begun.ensures.tries v there none same stood (ap awaited_again c.in-Child.is))
    c.begin.new.tree c.in_ok-begun.begun c.in-Child.child c.begin.ensures.current c.in-Child.is (λ v there opens. let k = c.in_ok-begun.ensures.kids v there opens in (k.0, k.2, k.5)))

pub returns-in-Leaf-clause-comes : goal.returns-in-Leaf-clause-comes
returns-in-Leaf-clause-comes g c s sees =
    leaf_advances s (is_way c.args.scene.now.ways.now) (kept_hooks c.args.hooks.now) c.args.tree.now c.args.contexts.now c.begin.new.tree c.begin.new.contexts c.args.id _ (λ n fs cs e old. c.in_ok-begun.ensures.few s n fs cs e old sees)
    (subst (BeginsPlace s (is_way c.args.scene.now.ways.now) (kept_hooks c.args.hooks.now) c.args.tree.now c.args.contexts.now c.begin.new.tree c.begin.new.contexts c.args.id) c.in-Leaf.is (c.in_ok-begun.ensures.begun s sees))
    (leaf_paid s c.args.scene.now sees (kept_hooks c.args.hooks.now) c.args.tree.now c.args.contexts.now c.args.id c.in_ok-begun.evaluated c.facts.ensures.fits
    (record { none = c.in_ok-begun.ensures.none; some = c.in_ok-begun.ensures.body }) (λ n fs cs e old. c.in_ok-begun.ensures.few s n fs cs e old sees) (λ v there none same stood. c.in_ok-begun.ensures.tries v there none same stood (ap awaited_again c.in-Leaf.is))
    c.begin.new.tree c.in_ok-begun.begun c.begin.ensures.current c.in-Leaf.is (λ v there opens. let k = c.in_ok-begun.ensures.kids v there opens in (k.0, k.2, k.5)))

pub returns-in_ok-at-in-Suspended-clause-comes : goal.returns-in_ok-at-in-Suspended-clause-comes
returns-in_ok-at-in-Suspended-clause-comes g c s sees =
    waits_advances s (is_way c.args.scene.now.ways.now) (kept_hooks c.args.hooks.now) c.args.tree.now c.args.contexts.now c.begin.new.tree c.begin.new.contexts c.args.id _ (λ n fs cs e old. c.in_ok-begun.ensures.few s n fs cs e old sees) c.in-Suspended.resource c.suspend.new.tree c.suspend.new.contexts
    c.in_ok-at-in-Suspended.at
    (subst (BeginsPlace s (is_way c.args.scene.now.ways.now) (kept_hooks c.args.hooks.now) c.args.tree.now c.args.contexts.now c.begin.new.tree c.begin.new.contexts c.args.id) c.in-Suspended.is (c.in_ok-begun.ensures.begun s sees))
    c.in_ok-at-in-Suspended.ensures.comes
    (waits_paid s c.args.scene.now sees (kept_hooks c.args.hooks.now) c.args.tree.now c.args.contexts.now c.args.id c.in_ok-begun.evaluated c.facts.ensures.fits
    (record { none = c.in_ok-begun.ensures.none; some = c.in_ok-begun.ensures.body }) (λ n fs cs e old. c.in_ok-begun.ensures.few s n fs cs e old sees) (λ v there none same stood. c.in_ok-begun.ensures.tries v there none same stood (ap awaited_again c.in-Suspended.is))
    c.begin.new.tree c.begin.new.contexts c.in-Suspended.resource c.suspend.new.tree c.in_ok-at-in-Suspended.at (c.in_ok-begun.ensures.waits c.in-Suspended.resource c.in-Suspended.is) c.in_ok-at-in-Suspended.ensures.flags)

pub returns-in_ok-at-in-Thrown-clause-comes : goal.returns-in_ok-at-in-Thrown-clause-comes
returns-in_ok-at-in-Thrown-clause-comes g c s sees =
    throws_advances s (is_way c.args.scene.now.ways.now) (kept_hooks c.args.hooks.now) c.args.tree.now c.args.contexts.now c.begin.new.tree c.begin.new.contexts c.args.id _ (λ n fs cs e old. c.in_ok-begun.ensures.few s n fs cs e old sees) c.in-Thrown.value c.throw_out.new.tree c.throw_out.new.contexts
    c.in_ok-at-in-Thrown.at
    (subst (BeginsPlace s (is_way c.args.scene.now.ways.now) (kept_hooks c.args.hooks.now) c.args.tree.now c.args.contexts.now c.begin.new.tree c.begin.new.contexts c.args.id) c.in-Thrown.is (c.in_ok-begun.ensures.begun s sees))
    c.in_ok-at-in-Thrown.ensures.comes
    (throws_paid s c.args.scene.now sees (kept_hooks c.args.hooks.now) c.args.tree.now c.args.contexts.now c.args.id c.in_ok-begun.evaluated c.facts.ensures.fits
    (record { none = c.in_ok-begun.ensures.none; some = c.in_ok-begun.ensures.body }) (λ n fs cs e old. c.in_ok-begun.ensures.few s n fs cs e old sees) (λ v there none same stood. c.in_ok-begun.ensures.tries v there none same stood (ap awaited_again c.in-Thrown.is))
    c.begin.new.tree c.begin.new.contexts c.in-Thrown.value c.throw_out.new.tree c.in_ok-at-in-Thrown.at (c.in_ok-begun.ensures.throws c.in-Thrown.value c.in-Thrown.is) c.in_ok-at-in-Thrown.ensures.flags)

pub open_old_fallback-requires : goal.open_old_fallback-requires
open_old_fallback-requires g c =
    hidden_left c.args.scene.now (kept_hooks c.args.hooks.now) c.args.tree.now c.args.contexts.now c.begin.new.tree c.begin.new.contexts c.args.id c.in-Hidden.awaits c.requires
    (λ s sees. subst (BeginsPlace s (is_way c.args.scene.now.ways.now) (kept_hooks c.args.hooks.now) c.args.tree.now c.args.contexts.now c.begin.new.tree c.begin.new.contexts c.args.id) c.in-Hidden.is (c.in_ok-begun.ensures.begun s sees))

-- a hidden boundary waits still
is_again : {b : Begun} {a : Awaits} → b ≡ answers.Hidden a → IsSome (awaited_again b)
is_again is = subst (λ x. IsSome (awaited_again x)) (sym is) refl

pub returns-in_ok-opened-in-Hidden-clause-comes : goal.returns-in_ok-opened-in-Hidden-clause-comes
returns-in_ok-opened-in-Hidden-clause-comes g c s sees =
    let st = c.begin.new.contexts in
    let opened = c.in_ok-opened-in-Hidden.opened in
    let tries = hidden_tried c.args.scene.now (kept_hooks c.args.hooks.now) c.args.tree.now c.args.contexts.now c.begin.new.tree c.args.id c.facts.ensures.fits c.requires (c.in_ok-begun.ensures.tried (is_again c.in-Hidden.is)) in
    subst (Advances s (is_way c.args.scene.now.ways.now) (kept_hooks c.args.hooks.now) c.args.tree.now c.args.contexts.now (Begins c.args.id) _ c.open_old_fallback.new.tree st) (sym c.at_opened.ensures)
    (hidden_advances s (is_way c.args.scene.now.ways.now) (kept_hooks c.args.hooks.now) c.args.tree.now c.args.contexts.now c.begin.new.tree st c.args.id _ c.in-Hidden.awaits c.open_old_fallback.new.tree (at_opened opened)
    (λ n fs cs e old. c.in_ok-begun.ensures.few s n fs cs e old sees) c.facts.ensures.fits c.facts.ensures.linked
    (subst (BeginsPlace s (is_way c.args.scene.now.ways.now) (kept_hooks c.args.hooks.now) c.args.tree.now c.args.contexts.now c.begin.new.tree st c.args.id) c.in-Hidden.is (c.in_ok-begun.ensures.begun s sees))
    (λ d l again. opened_comes c.open_old_fallback.new.tree st opened d (c.in_ok-opened-in-Hidden.ensures.opened st d l again))
    (λ x was. subst (λ l. ForEachIn (λ i. TellsNews (kept_hooks c.args.hooks.now) l s.cut i false) (children_of x)) (sym sees.lanes)
    (subst (λ k. ForEachIn (λ i. TellsNews (kept_hooks c.args.hooks.now) c.args.scene.now.lanes k i false) (children_of x)) (sym sees.cut) (c.in_ok-begun.ensures.news (is_again c.in-Hidden.is) x was)))
    (again_flags c.args.tree.now c.begin.new.tree c.open_old_fallback.new.tree c.args.id tries.0 opened c.facts.ensures.fits tries.1 c.in_ok-opened-in-Hidden.ensures.kids
    c.facts-in-Hidden.ensures.fits c.in-Hidden.awaits
    (hidden_left c.args.scene.now (kept_hooks c.args.hooks.now) c.args.tree.now c.args.contexts.now c.begin.new.tree c.begin.new.contexts c.args.id c.in-Hidden.awaits c.requires
    (λ s sees. subst (BeginsPlace s (is_way c.args.scene.now.ways.now) (kept_hooks c.args.hooks.now) c.args.tree.now c.args.contexts.now c.begin.new.tree c.begin.new.contexts c.args.id) c.in-Hidden.is (c.in_ok-begun.ensures.begun s sees)))
    c.open_old_fallback.ensures.current))

pub pass-requires : goal.pass-requires
pass-requires g c =
    taken_made c.args.scene.now (kept_hooks c.args.hooks.now) c.args.tree.now c.args.contexts.now c.begin.new.tree c.begin.new.contexts c.args.id c.requires c.place_facts.ensures
    (λ s sees. subst (BeginsPlace s (is_way c.args.scene.now.ways.now) (kept_hooks c.args.hooks.now) c.args.tree.now c.args.contexts.now c.begin.new.tree c.begin.new.contexts c.args.id) c.in-Taken.is (c.in_ok-begun.ensures.begun s sees))

pub returns-in-Taken-clause-comes : goal.returns-in-Taken-clause-comes
returns-in-Taken-clause-comes g c s sees =
    let st = c.begin.new.contexts in
    subst (λ a. Advances s (is_way c.args.scene.now.ways.now) (kept_hooks c.args.hooks.now) c.args.tree.now c.args.contexts.now (Begins c.args.id) (if c.in_ok-begun.evaluated then 1 else 0) c.begin.new.tree st a) (sym c.at_after.ensures)
    (taken_advances s (is_way c.args.scene.now.ways.now) (kept_hooks c.args.hooks.now) c.args.tree.now c.args.contexts.now c.begin.new.tree st c.args.id (if c.in_ok-begun.evaluated then 1 else 0) c.pass.result
    (ap (λ b. if b then 1 else 0) (c.in_ok-begun.ensures.taken (ap is_taken c.in-Taken.is))) c.facts.ensures.linked
    (subst (BeginsPlace s (is_way c.args.scene.now.ways.now) (kept_hooks c.args.hooks.now) c.args.tree.now c.args.contexts.now c.begin.new.tree st c.args.id) c.in-Taken.is (c.in_ok-begun.ensures.begun s sees))
    (λ x was. subst (λ l. EachBut (is_way c.args.scene.now.ways.now) (Rests (kept_hooks c.args.hooks.now) l s.cut) x) (sym sees.lanes)
    (subst (λ k. EachBut (is_way c.args.scene.now.ways.now) (Rests (kept_hooks c.args.hooks.now) c.args.scene.now.lanes k) x) (sym sees.cut) (c.in_ok-begun.ensures.rests (ap is_taken c.in-Taken.is) x was)))
    (passed_flags c.args.tree.now c.begin.new.tree c.args.id c.pass.result c.facts.ensures.fits c.facts-in-Taken.ensures.fits c.begin.ensures.current (c.in_ok-begun.ensures.taken_over (ap is_taken c.in-Taken.is)) c.pass.ensures.next)
    (λ levels fs x. c.pass.ensures.stands st levels fs x) (λ levels fs x. c.pass.ensures.leads st levels fs x))

pub returns-in-Child-clause-gathered : goal.returns-in-Child-clause-gathered
returns-in-Child-clause-gathered g c current h =
    child_gathered c.args.tree.now c.begin.new.tree c.args.id c.facts.ensures.fits c.in_ok-begun.begun (λ v there opens. let k = c.in_ok-begun.ensures.kids v there opens in (k.0, k.2, k.5)) c.begin.ensures.current h c.in-Child.child c.in-Child.is

pub returns-in-Leaf-clause-gathered : goal.returns-in-Leaf-clause-gathered
returns-in-Leaf-clause-gathered g c current h =
    leaf_gathered c.args.tree.now c.begin.new.tree c.args.id c.facts.ensures.fits c.in_ok-begun.begun (λ v there opens. let k = c.in_ok-begun.ensures.kids v there opens in (k.0, k.2, k.5)) c.begin.ensures.current h c.in-Leaf.is

pub returns-in_ok-at-in-Suspended-clause-gathered : goal.returns-in_ok-at-in-Suspended-clause-gathered
returns-in_ok-at-in-Suspended-clause-gathered g c current h =
    let same = sym (c.in_ok-begun.ensures.waits c.in-Suspended.resource c.in-Suspended.is) in
    c.in_ok-at-in-Suspended.ensures.gathered (subst (λ (t : Trees Fiber). IsGathered t.current) same current) (subst (λ t. IsGathering t (Begins c.args.id)) same h)

pub returns-in_ok-at-in-Thrown-clause-gathered : goal.returns-in_ok-at-in-Thrown-clause-gathered
returns-in_ok-at-in-Thrown-clause-gathered g c current h =
    let same = sym (c.in_ok-begun.ensures.throws c.in-Thrown.value c.in-Thrown.is) in
    c.in_ok-at-in-Thrown.ensures.gathered (subst (λ (t : Trees Fiber). IsGathered t.current) same current) (subst (λ t. IsGathering t (Begins c.args.id)) same h)

pub returns-in_ok-opened-in-Hidden-clause-gathered : goal.returns-in_ok-opened-in-Hidden-clause-gathered
returns-in_ok-opened-in-Hidden-clause-gathered g c current h =
    let tries = hidden_tried c.args.scene.now (kept_hooks c.args.hooks.now) c.args.tree.now c.args.contexts.now c.begin.new.tree c.args.id c.facts.ensures.fits c.requires (c.in_ok-begun.ensures.tried (is_again c.in-Hidden.is)) in
    subst (IsGathering c.open_old_fallback.new.tree) (sym c.at_opened.ensures)
    (again_gathered (as_cloned true) c.args.tree.now c.begin.new.tree c.open_old_fallback.new.tree c.args.id tries.0 c.in_ok-opened-in-Hidden.opened c.facts.ensures.fits
    tries.1 c.in_ok-opened-in-Hidden.ensures.kids c.open_old_fallback.ensures.current current h)

pub returns-in-Taken-clause-gathered : goal.returns-in-Taken-clause-gathered
returns-in-Taken-clause-gathered g c current h =
    let (x, was, same) = taken_node c.args.scene.now (kept_hooks c.args.hooks.now) c.args.tree.now c.args.contexts.now c.begin.new.tree c.begin.new.contexts c.args.id c.facts.ensures.fits c.requires
    (λ s sees. subst (BeginsPlace s (is_way c.args.scene.now.ways.now) (kept_hooks c.args.hooks.now) c.args.tree.now c.args.contexts.now c.begin.new.tree c.begin.new.contexts c.args.id) c.in-Taken.is (c.in_ok-begun.ensures.begun s sees)) in
    subst (IsGathering c.begin.new.tree) (sym c.at_after.ensures)
    (passed_gathered c.args.tree.now c.begin.new.tree c.args.id c.pass.result c.facts.ensures.fits c.facts-in-Taken.ensures.fits c.facts.ensures.linked
    c.begin.ensures.current (c.in_ok-begun.ensures.taken_over (ap is_taken c.in-Taken.is)) c.pass.ensures.next x was same current h)
