use Rattle.std.specs.Prelude.{is_some, true}
use Rattle.std.proofs.Common.{ap, ◌∙◌, refl, subst, sym}
use Rattle.rx_links.specs.Drafts.{Trees}
use Rattle.rx_fiber.specs.Fibers.{Fiber}
use Rattle.rx_fiber.specs.Reading.{IsTreeOf}
use Rattle.rx_fiber.specs.Subtrees.{IsGathered}
use Rattle.rx_model.specs.HooksOf.{KeepsAllHooks}
use Rattle.rx_model.specs.Laws.{IsBounded}
use Rattle.rx_hook_store.specs.Store.{kept_hooks}
use Rattle.rx_render.specs.Rendering.{Rendering}
use Rattle.rx_render.specs.Renders.{GivesAll, LeadsToWork}
use Rattle.rx_render.proofs.Starting.{root_stands, start_rendering, start_renders}
use Rattle.rx_render.proofs.renderer.Renderer.start.Goals as goal

pub invariant_of-self-2 : goal.invariant_of-self-2
invariant_of-self-2 c =
    let root = root_stands c.args.lanes c.args.cut c.args.resources c.args.self.now _ c.start.new.self c.in_ok-id.id c.in_ok-contexts.contexts c.in_ok-ways.ways c.may_throw_anew-throws.result (c.self.view_is ∙ c.discard.ensures)
    c.new-2.result c.in_ok-root.root c.deref.result.now c.in_ok-defaults.defaults.items c.in_ok-id.ensures.ok (record { cloned = c.is_some-cloned.result; visible = true; generation = 0 }) (c.is_some-cloned.ensures ∙ ap is_some c.current.ensures) refl refl c.new-2.ensures c.in_ok-root.ensures c.in_ok-contexts.ensures
    c.deref.ensures.value c.in_ok-defaults.ensures
    (λ s tree next with at gives is. c.in_ok-ways.ensures.idle s tree next with at (subst (λ (v : Rendering). GivesAll s tree (kept_hooks v.hooks)) c.self.view_is gives) (subst (λ (v : Rendering). IsTreeOf tree v.trees.current) c.self.view_is is))
    (λ p st g next with at keeps is. c.in_ok-ways.ensures.undue p st g next with at (subst (λ (v : Rendering). KeepsAllHooks p st (kept_hooks v.hooks)) c.self.view_is keeps) (subst (λ (v : Rendering). IsTreeOf st.tree v.trees.current) c.self.view_is is))
    (λ s known last at. c.may_throw_anew-throws.ensures s (known ∙ ap (λ (v : Rendering). v.program) c.self.view_is) (last ∙ ap (λ (v : Rendering). v.seen) c.self.view_is) at) in
    start_rendering c.args.lanes c.args.cut c.args.resources c.args.self.now _ c.in_ok-id.id root c.cursors_are_drawn.ensures.start c.self.invariant.known c.self.invariant.bounded
    (subst (λ (t : Trees Fiber). IsGathered t.current) (sym c.in_ok-id.ensures.ok) c.self.invariant.gathered) c.requires

pub returns-clause-started : goal.returns-clause-started
returns-clause-started c st is =
    let was = c.self.view_is ∙ c.discard.ensures in
    let root = root_stands c.args.lanes c.args.cut c.args.resources c.args.self.now _ c.start.new.self c.in_ok-id.id c.in_ok-contexts.contexts c.in_ok-ways.ways c.may_throw_anew-throws.result was
    c.new-2.result c.in_ok-root.root c.deref.result.now c.in_ok-defaults.defaults.items c.in_ok-id.ensures.ok (record { cloned = c.is_some-cloned.result; visible = true; generation = 0 }) (c.is_some-cloned.ensures ∙ ap is_some c.current.ensures) refl refl c.new-2.ensures c.in_ok-root.ensures c.in_ok-contexts.ensures
    c.deref.ensures.value c.in_ok-defaults.ensures
    (λ s tree next with at gives is. c.in_ok-ways.ensures.idle s tree next with at (subst (λ (v : Rendering). GivesAll s tree (kept_hooks v.hooks)) c.self.view_is gives) (subst (λ (v : Rendering). IsTreeOf tree v.trees.current) c.self.view_is is))
    (λ p st g next with at keeps is. c.in_ok-ways.ensures.undue p st g next with at (subst (λ (v : Rendering). KeepsAllHooks p st (kept_hooks v.hooks)) c.self.view_is keeps) (subst (λ (v : Rendering). IsTreeOf st.tree v.trees.current) c.self.view_is is))
    (λ s known last at. c.may_throw_anew-throws.ensures s (known ∙ ap (λ (v : Rendering). v.program) c.self.view_is) (last ∙ ap (λ (v : Rendering). v.seen) c.self.view_is) at) in
    start_renders c.args.lanes c.args.cut c.args.resources c.args.self.now _ root c.cursors_are_drawn.ensures.start (subst IsBounded root.program c.self.invariant.bounded) st is

pub returns-clause-ways : goal.returns-clause-ways
returns-clause-ways c tree n is on =
    subst (λ (v : Rendering). LeadsToWork c.args.lanes c.args.cut (kept_hooks v.hooks) n tree) c.discard.ensures
    (c.in_ok-ways.ensures.lead tree n (subst (λ (v : Rendering). IsTreeOf tree v.trees.current) (sym c.discard.ensures) is) on)
