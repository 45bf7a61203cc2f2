-- The end of a render, and the units before it.
use Rattle.std.specs.Prelude.{◌≡◌, ℕ, ◌<◌, Option, Some, length, refl}
use Rattle.std.proofs.Common.{◌∙◌, sym, arith}
use Rattle.rx_ast.specs.Syntax.{Program}
use Rattle.rx_ctx.specs.Contexts.{Stack}
use Rattle.rx_elem.specs.Trees.{Node}
use Rattle.rx_links.specs.Drafts.{Trees, grafted}
use Rattle.rx_meaning.specs.Fresh.{Sight, fresh, made, throws, waits}
use Rattle.rx_meaning.specs.Cursor.{Cursor, ended}
use Rattle.rx_meaning.specs.Rest.{gives}
use Rattle.rx_model.specs.State.{State, Progress}
use Rattle.rx_model.specs.Committing.{sight_of}
use Rattle.rx_model.specs.Laws.{IsBounded}
use Rattle.rx_model.specs.Turns.{unit_bound}
use Rattle.rx_model.proofs.NeverWaits.{app_never_waits}
use Rattle.rx_fiber.specs.Fibers.{Fiber}
use Rattle.rx_fiber.specs.Reading.{IsTreeOf}
use Rattle.rx_fiber.specs.Standing.{over}
use Rattle.render_laws.specs.InProgress.{InProgress}
use Rattle.render_laws.proofs.GoingLaws.{holds_unfinished, holds_last}
use Rattle.render_laws.proofs.Bounded.{units_within}
use Rattle.rx_render.specs.declared.at.At.{At}
use Rattle.rx_render.specs.declared.at.At.TheVariants.{Over}
use Rattle.cost_laws.specs.Left.{Costs, Flags}
use Rattle.cost_laws.specs.Places.{AreEvaluated, evaluated_places}
use Rattle.cost_laws.proofs.CostLaws.{last_costs}
use Rattle.cost_laws.proofs.ComingCounts.{places_counted}
use Rattle.cost_laws.proofs.Caused.{are_evaluated}
use Rattle.rx_render.specs.Rendering.{Rendering, IfLeft, ComesTo, to_place, to_end, to_tree, to_wait}
use Rattle.rx_render.specs.Renders.{HasCome, Renders}

-- an end that is in progress is no wait
pub no_wait : (p : Program) → IsBounded p → (s : Sight) (old : Option Node) → s.program ≡ p → (units bodies : ℕ) (a : _) → InProgress s old units bodies (ended (waits a)) → ⊥
unfolding gives
no_wait p bounded s old same units bodies a h =
    let (n, e) = app_never_waits p bounded s old same in
    let f : waits a ≡ made n = h.gives_fresh ∙ e in
    cc

-- nor a throw
pub no_throw : (p : Program) → IsBounded p → (s : Sight) (old : Option Node) → s.program ≡ p → (units bodies : ℕ) (x : _) → InProgress s old units bodies (ended (throws x)) → ⊥
unfolding gives
no_throw p bounded s old same units bodies x h =
    let (n, e) = app_never_waits p bounded s old same in
    let f : throws x ≡ made n = h.gives_fresh ∙ e in
    cc

-- what a render has made when no unit is left
abbrev Ends : Trees Fiber → Sight → Option Node → (units bodies : ℕ) → Type 0
Ends t s old units bodies =
    (x : Node) × IsTreeOf (Some x) (grafted t.draft) × (fresh s old ≡ made x) × (bodies < units) × (bodies ≡ length (evaluated_places s old)) × AreEvaluated s old

ends_as : (p : Program) → IsBounded p → (s : Sight) (old : Option Node) → s.program ≡ p → (units bodies : ℕ) (t : Trees Fiber) (st : Stack) (at : At) (c : Cursor)
    → ComesTo t st at c → at ≡ Over → InProgress s old units bodies c → (us : Flags) → Costs s old bodies us c → AreEvaluated s old → Ends t s old units bodies
ends_as p bounded s old same units bodies t st _ c (to_place h) e g us costs places = absurd (let f : ⊥ = cc in f)
ends_as p bounded s old same units bodies t st _ c (to_end h) e g us costs places = absurd (let f : ⊥ = cc in f)
ends_as p bounded s old same units bodies t st _ _ (to_tree (over {x = x} tree few empty)) e g us costs places =
    let (made_it, fewer) = holds_last g in (x, tree, made_it, fewer, last_costs s old bodies us (made x) costs ∙ sym (places_counted s old), places)
ends_as p bounded s old same units bodies t st _ _ (to_wait {a = a}) e g us costs places = absurd (no_wait p bounded s old same units bodies a g)

pub renders_end : (p : Program) → IsBounded p → (st : State) (g : Progress) (v : Rendering) → Renders p st g v → v.at ≡ Over
    → Ends v.trees (sight_of p st g) st.tree v.units v.bodies
renders_end p bounded st g v r e = ends_as p bounded (sight_of p st g) st.tree refl v.units v.bodies v.trees v.contexts v.at r.come.cursor r.come.comes e r.come.goes r.costs.flags r.costs.counted
    (are_evaluated (sight_of p st g) st.tree r.settled r.done r.rooted)

bounded_as : (s : Sight) (old : Option Node) → IsBounded s.program → (units bodies : ℕ) (t : Trees Fiber) (st : Stack) (at : At) (c : Cursor)
    → ComesTo t st at c → InProgress s old units bodies c → IfLeft at (units < unit_bound s.program)
bounded_as s old b units bodies t st _ _ (to_place h) g = omega (arith, holds_unfinished g refl, units_within s b.apart b.small old)
bounded_as s old b units bodies t st _ _ (to_end h) g = omega (arith, holds_unfinished g refl, units_within s b.apart b.small old)
bounded_as s old b units bodies t st _ _ (to_tree h) g = tt
bounded_as s old b units bodies t st _ _ to_wait g = tt

-- if a unit is left fewer were taken than the bound
pub come_bounded : (s : Sight) (old : Option Node) (v : Rendering) → IsBounded s.program → HasCome s old v → IfLeft v.at (v.units < unit_bound s.program)
come_bounded s old v bounded h = bounded_as s old bounded v.units v.bodies v.trees v.contexts v.at h.cursor h.comes h.goes

pub renders_bounded : (p : Program) → IsBounded p → (st : State) (g : Progress) (v : Rendering) → Renders p st g v → IfLeft v.at (v.units < unit_bound p)
renders_bounded p bounded st g v r = come_bounded (sight_of p st g) st.tree v bounded r.come
