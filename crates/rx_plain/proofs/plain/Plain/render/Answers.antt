use Rattle.std.proofs.Common.{◌∙◌, refl, ap, sym, subst}
use Rattle.std.specs.Prelude.{ℕ, List, Option, Some}
use Rattle.std.specs.Option.{option_copied}
use Rattle.rx_base.specs.declared.cut.Cut.{Cut}
use Rattle.rx_elem.specs.Trees.{Node}
use Rattle.rx_meaning.specs.Fresh.{fresh}
use Rattle.rx_meaning.specs.Settled.{DoneBefore}
use Rattle.rx_model.specs.Committing.{sight_of}
use Rattle.rx_model.specs.HooksOf.{KeepsAllHooks}
use Rattle.rx_hook_store.specs.Store as hooks
use Rattle.rx_hook_store.specs.Store.{kept_hooks}
use Rattle.rx_fresh.specs.Evaluated.{AreEvaluated, Evaluation}
use Rattle.rx_plain.specs.declared.plain.Going.TheInside.{Inside}
use Rattle.rx_plain.specs.Plained.{Going, Plained}
use Rattle.rx_plain.specs.Stands.{GoesOnWith, HasProgress}
use Rattle.rx_plain.proofs.Runnable.{runnable_bounded}
use Rattle.rx_plain.proofs.Turning.{fresh_ends, gives_same, hooks_give, hooks_there, rendered_stands}
use Rattle.rx_plain.proofs.plain.Plain.render.Goals as goal

pub fresh-requires-clause-kept : goal.fresh-requires-clause-kept
fresh-requires-clause-kept t c k m at =
    let e = c.requires.goes_on in
    hooks_there c.args.checked.now e.state e.progress c.args.self.now e.stands (option_copied c.as_ref-old.result) (c.as_ref-old.ensures.value ∙ ap (λ (v : Plained). v.tree) c.self.view_is) c.self.inside.hooks
    (ap (λ (v : Plained). v.hooks) c.self.view_is) k m at

pub fresh-requires-clause-evaluated : goal.fresh-requires-clause-evaluated
fresh-requires-clause-evaluated t c =
    subst (λ (es : List (ℕ × Evaluation)). AreEvaluated c.args.checked.now es) (sym (ap (λ (v : Plained). v.evaluations) c.self.view_is)) c.requires.goes_on.stands.evaluated

pub node_of-requires : goal.node_of-requires
node_of-requires t c =
    let p = c.args.checked.now in
    let v = c.args.self.now in
    let e = c.requires.goes_on in
    let s = e.state in
    let g = e.progress in
    let tree = c.as_ref-old.ensures.value ∙ ap (λ (w : Plained). w.tree) c.self.view_is in
    let going = sym (ap (λ (w : Plained). w.going) c.self.view_is) ∙ c.in-Some.is in
    let on : GoesOnWith p s g c.in-Some.going = subst (λ (o : Option Going). HasProgress p s (Some g) o) going e.stands.progress in
    let placed = c.in_ok-place.ensures.place (sight_of p s g)
    (record {
      program = refl;
      versions = c.deref.ensures.value ∙ ap (λ (x : Inside). x.seen.versions) c.going-inside.view_is ∙ ap (λ (x : Going). x.seen.versions) c.going.view_is ∙ on.seen.versions;
      resources = c.deref-2.ensures.value ∙ ap (λ (x : Inside). x.seen.values) c.going-inside.view_is ∙ ap (λ (x : Going). x.seen.values) c.going.view_is ∙ on.seen.values;
      lanes = sym (ap (λ (x : Inside). x.lanes) c.going-inside.view_is ∙ ap (λ (x : Going). x.lanes) c.going.view_is ∙ on.lanes);
      cut = sym (ap (λ (x : Inside). x.cut) c.going-inside.view_is ∙ ap (λ (x : Going). x.cut) c.going.view_is ∙ on.cut);
    })
    (hooks_give p s g v e.stands (option_copied c.as_ref-old.result) tree c.self.inside.hooks (ap (λ (w : Plained). w.hooks) c.self.view_is)) in
    let never = c.never_waits.ensures p (runnable_bounded p c.program.ensures.runnable) (sight_of p s g) (option_copied c.as_ref-old.result) refl in
    (never.0, placed ∙ never.1)

pub returns-clause-tree : goal.returns-clause-tree
returns-clause-tree t c s g h =
    let p = c.args.checked.now in
    let v = c.args.self.now in
    let tree = c.as_ref-old.ensures.value ∙ ap (λ (w : Plained). w.tree) c.self.view_is in
    let going = sym (ap (λ (w : Plained). w.going) c.self.view_is) ∙ c.in-Some.is in
    let on : GoesOnWith p s g c.in-Some.going = subst (λ (o : Option Going). HasProgress p s (Some g) o) going h.progress in
    let placed = c.in_ok-place.ensures.place (sight_of p s g)
    (record {
      program = refl;
      versions = c.deref.ensures.value ∙ ap (λ (x : Inside). x.seen.versions) c.going-inside.view_is ∙ ap (λ (x : Going). x.seen.versions) c.going.view_is ∙ on.seen.versions;
      resources = c.deref-2.ensures.value ∙ ap (λ (x : Inside). x.seen.values) c.going-inside.view_is ∙ ap (λ (x : Going). x.seen.values) c.going.view_is ∙ on.seen.values;
      lanes = sym (ap (λ (x : Inside). x.lanes) c.going-inside.view_is ∙ ap (λ (x : Going). x.lanes) c.going.view_is ∙ on.lanes);
      cut = sym (ap (λ (x : Inside). x.cut) c.going-inside.view_is ∙ ap (λ (x : Going). x.cut) c.going.view_is ∙ on.cut);
    })
    (hooks_give p s g v h (option_copied c.as_ref-old.result) tree c.self.inside.hooks (ap (λ (w : Plained). w.hooks) c.self.view_is)) in
    gives_same p s g c.node_of.result (c.never_waits.ensures p (runnable_bounded p c.program.ensures.runnable)) (fresh_ends c.ends_are_not_rendered.ensures.place (sight_of p s g))
    (sym c.node_of.ensures ∙ placed ∙ ap (λ (o : Option Node). fresh (sight_of p s g) o) (tree ∙ h.tree))

pub returns-clause-stands : goal.returns-clause-stands
returns-clause-stands t c s g h =
    let p = c.args.checked.now in
    let going = sym (ap (λ (w : Plained). w.going) c.self.view_is) ∙ c.in-Some.is in
    let on : GoesOnWith p s g c.in-Some.going = subst (λ (o : Option Going). HasProgress p s (Some g) o) going h.progress in
    rendered_stands p s g c.args.self.now _ c.fresh.new.hooks c.fresh.new.evaluations h (λ i. record (c.self.view_is i) { hooks = c.fresh.new.hooks; evaluations = c.fresh.new.evaluations })
    c.fresh.ensures.evaluated
    (c.fresh.ensures.goes.states s (subst (λ (k : Cut). DoneBefore k s.journal.updates) (sym (ap (λ (x : Inside). x.cut) c.going-inside.view_is ∙ ap (λ (x : Going). x.cut) c.going.view_is ∙ on.cut)) on.done)
    (subst (λ (k : hooks.Kept). KeepsAllHooks p s (kept_hooks k)) (sym (ap (λ (w : Plained). w.hooks) c.self.view_is)) h.keeps))
