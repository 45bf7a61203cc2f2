use Rattle.std.specs.Prelude.{ℕ, ℤ, List}
use Rattle.std.proofs.Common.{subst}
use Rattle.rx_base.specs.declared.cut.Cut.{Cut}
use Rattle.rx_lane.specs.Lanes.{Lanes}
use Rattle.rx_ast.specs.Syntax.{Program}
use Rattle.rx_model.specs.State.{Progress, State}
use Rattle.rx_model.specs.HooksOf.{KeepsAllHooks}
use Rattle.rx_hook_store.specs.Store.{kept_hooks}
use Rattle.rx_hook_store.specs.Rendered.{IsRendered}
use Rattle.rx_render.specs.contracts.renderer.Renderer.{the_view}
use Rattle.rx_render.specs.Renders.{Renders, with_hooks}
use Rattle.rx_render.proofs.Sending.{kept_rendering, with_kept}
use Rattle.rx_render.proofs.renderer.Renderer.reserve.Goals as goal

pub invariant_of-self : goal.invariant_of-self
invariant_of-self c = kept_rendering (the_view c.self.inside) c.reserve_updates.new.self c.reserve_updates.ensures.still c.self.invariant

pub returns-clause-states : goal.returns-clause-states
returns-clause-states c =
    subst (λ v. (p : Program) (s : State) → KeepsAllHooks p s (kept_hooks v.hooks) → KeepsAllHooks p s (kept_hooks c.reserve_updates.new.self)) c.self.view_is
    c.reserve_updates.ensures.states

pub returns-clause-rendered : goal.returns-clause-rendered
returns-clause-rendered c =
    subst (λ v. (p : Program) (s : State) (lanes : Lanes) (cut : Cut) (k : ℕ) (initials : List ℤ) → IsRendered p s lanes cut (kept_hooks v.hooks) k initials
    → IsRendered p s lanes cut (kept_hooks c.reserve_updates.new.self) k initials) c.self.view_is
    c.reserve_updates.ensures.rendered

pub returns-clause-renders : goal.returns-clause-renders
returns-clause-renders c =
    let inside = the_view c.self.inside in
    subst (λ v. (p : Program) (s : State) (g : Progress) → Renders p s g v → Renders p s g (with_hooks inside c.reserve_updates.new.self)) c.self.view_is
    (λ p s g r. with_kept inside c.reserve_updates.new.self p s g (c.reserve_updates.ensures.states p s r.keeps) r)
