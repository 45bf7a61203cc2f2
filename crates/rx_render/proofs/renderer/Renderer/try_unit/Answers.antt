use Rattle.std.specs.Prelude.{if◌then◌else◌}
use Rattle.std.proofs.Common.{◌+◌, ◌≤◌, Bool, true, false, refl, sym, ap, ◌∙◌, arith, subst}
use Rattle.rx_links.specs.Drafts.{grafted}
use Rattle.rx_fiber.specs.Subtrees.{IsGathered}
use Rattle.rx_beside.specs.Alike.{AllTakeAlike}
use Rattle.rx_render.specs.declared.at.At.TheVariants.{Over}
use Rattle.rx_render.specs.Rendering.{Rendering}
use Rattle.rx_render.specs.contracts.renderer.Renderer.{the_view}
use Rattle.rx_render.proofs.Advancing.{on_err}
use Rattle.rx_render.proofs.SameVersions.{scene_seen}
use Rattle.rx_render.proofs.Going.{stepped, over_rendering, inside_ready, breaks, steps_on, steps_to, falls, last, ticks}
use Rattle.rx_render.proofs.renderer.Renderer.try_unit.Goals as goal

pub advance-requires : goal.advance-requires
advance-requires g c =
    inside_ready c.args.self.now (the_view c.self.inside) c.self.view_is c.self.invariant c.requires c.cursors_are_drawn.ensures.place _
    (λ s sees. scene_seen _ (the_view c.self.inside) s _ c.seen.view_is refl c.deref.ensures.value c.deref-2.ensures.value refl refl refl refl sees) refl refl

pub invariant_of-self : goal.invariant_of-self
invariant_of-self g c =
    over_rendering (the_view c.self.inside) _ c.self.invariant refl refl c.in_err-next.ensures.current
    (subst (λ d. IsGathered (grafted d)) (sym c.in_err-next.ensures.dropped) tt) (subst (AllTakeAlike _) (sym c.in_err-next.ensures.dropped) tt)

pub invariant_of-self-2 : goal.invariant_of-self-2
invariant_of-self-2 g c =
    steps_to c.args.self.now (the_view c.self.inside) c.self.view_is c.self.invariant c.requires
    (record (the_view c.self.inside) { trees = c.advance.new.tree; hooks = c.advance.new.hooks; contexts = c.advance.new.contexts; at = c.in_ok-next.next; units = c.self.inside.units + 1; bodies = c.self.inside.bodies + c.one_if.result })
    c.one_if.result (stepped (the_view c.self.inside) c.advance.new.tree c.advance.new.hooks c.advance.new.contexts c.in_ok-next.next c.one_if.result c.one_if.ensures c.in_ok-next.ensures.current c.in_ok-next.ensures.states
    (λ s k initials sees. c.in_ok-next.ensures.still s k initials (scene_seen _ (the_view c.self.inside) s _ c.seen.view_is refl c.deref.ensures.value c.deref-2.ensures.value refl refl refl refl sees))
    (λ s sees. c.in_ok-next.ensures.comes s (scene_seen _ (the_view c.self.inside) s _ c.seen.view_is refl c.deref.ensures.value c.deref-2.ensures.value refl refl refl refl sees))) (record { unit = c.cursors_are_drawn.ensures.unit; attempt = c.cursors_are_drawn.ensures.skips_attempt; subtree = c.cursors_are_drawn.ensures.takes_over }) c.in_ok-next.ensures.gathered

pub returns-clause-falls : goal.returns-clause-falls
returns-clause-falls g c =
    falls c.args.self.now (the_view c.self.inside) c.self.view_is c.self.invariant c.requires
    (record (the_view c.self.inside) { trees = c.advance.new.tree; hooks = c.advance.new.hooks; contexts = c.advance.new.contexts; at = c.in_ok-next.next; units = c.self.inside.units + 1; bodies = c.self.inside.bodies + c.one_if.result })
    c.one_if.result (stepped (the_view c.self.inside) c.advance.new.tree c.advance.new.hooks c.advance.new.contexts c.in_ok-next.next c.one_if.result c.one_if.ensures c.in_ok-next.ensures.current c.in_ok-next.ensures.states
    (λ s k initials sees. c.in_ok-next.ensures.still s k initials (scene_seen _ (the_view c.self.inside) s _ c.seen.view_is refl c.deref.ensures.value c.deref-2.ensures.value refl refl refl refl sees))
    (λ s sees. c.in_ok-next.ensures.comes s (scene_seen _ (the_view c.self.inside) s _ c.seen.view_is refl c.deref.ensures.value c.deref-2.ensures.value refl refl refl refl sees))) (record { unit = c.cursors_are_drawn.ensures.unit; attempt = c.cursors_are_drawn.ensures.skips_attempt; subtree = c.cursors_are_drawn.ensures.takes_over }) c.in_ok-next.ensures.gathered

pub returns-clause-last : goal.returns-clause-last
returns-clause-last g c =
    last c.args.self.now (the_view c.self.inside) c.self.view_is c.self.invariant c.requires
    (record (the_view c.self.inside) { trees = c.advance.new.tree; hooks = c.advance.new.hooks; contexts = c.advance.new.contexts; at = c.in_ok-next.next; units = c.self.inside.units + 1; bodies = c.self.inside.bodies + c.one_if.result })
    c.one_if.result (stepped (the_view c.self.inside) c.advance.new.tree c.advance.new.hooks c.advance.new.contexts c.in_ok-next.next c.one_if.result c.one_if.ensures c.in_ok-next.ensures.current c.in_ok-next.ensures.states
    (λ s k initials sees. c.in_ok-next.ensures.still s k initials (scene_seen _ (the_view c.self.inside) s _ c.seen.view_is refl c.deref.ensures.value c.deref-2.ensures.value refl refl refl refl sees))
    (λ s sees. c.in_ok-next.ensures.comes s (scene_seen _ (the_view c.self.inside) s _ c.seen.view_is refl c.deref.ensures.value c.deref-2.ensures.value refl refl refl refl sees))) (record { unit = c.cursors_are_drawn.ensures.unit; attempt = c.cursors_are_drawn.ensures.skips_attempt; subtree = c.cursors_are_drawn.ensures.takes_over }) c.in_ok-next.ensures.gathered
    c.unit_before.result c.unit_before.ensures

pub returns-clause-ticks : goal.returns-clause-ticks
returns-clause-ticks g c =
    ticks c.args.self.now (the_view c.self.inside) c.self.view_is c.self.invariant c.requires
    (record (the_view c.self.inside) { trees = c.advance.new.tree; hooks = c.advance.new.hooks; contexts = c.advance.new.contexts; at = c.in_ok-next.next; units = c.self.inside.units + 1; bodies = c.self.inside.bodies + c.one_if.result })
    c.one_if.result (stepped (the_view c.self.inside) c.advance.new.tree c.advance.new.hooks c.advance.new.contexts c.in_ok-next.next c.one_if.result c.one_if.ensures c.in_ok-next.ensures.current c.in_ok-next.ensures.states
    (λ s k initials sees. c.in_ok-next.ensures.still s k initials (scene_seen _ (the_view c.self.inside) s _ c.seen.view_is refl c.deref.ensures.value c.deref-2.ensures.value refl refl refl refl sees))
    (λ s sees. c.in_ok-next.ensures.comes s (scene_seen _ (the_view c.self.inside) s _ c.seen.view_is refl c.deref.ensures.value c.deref-2.ensures.value refl refl refl refl sees))) (record { unit = c.cursors_are_drawn.ensures.unit; attempt = c.cursors_are_drawn.ensures.skips_attempt; subtree = c.cursors_are_drawn.ensures.takes_over }) c.in_ok-next.ensures.gathered
    c.args.steps.now c.advance.new.steps
    (c.in_ok-next.ensures.ticks ∙ ap (λ n. c.args.steps.now + n) (sym c.one_if.ensures))

-- a unit evaluates one body at most
pub once : (b : Bool) → (if b then 1 else 0) ≤ 1
once true = omega arith
once false = omega arith

pub returns-clause-each : goal.returns-clause-each
returns-clause-each g c = omega (arith, once c.in_ok-next.evaluated, c.one_if.ensures, ap (λ (v : Rendering). v.bodies) c.self.view_is)

pub returns-clause-onward : goal.returns-clause-onward
returns-clause-onward g c =
    steps_on c.args.self.now (the_view c.self.inside) c.self.view_is c.self.invariant c.requires
    (record (the_view c.self.inside) { trees = c.advance.new.tree; hooks = c.advance.new.hooks; contexts = c.advance.new.contexts; at = c.in_ok-next.next; units = c.self.inside.units + 1; bodies = c.self.inside.bodies + c.one_if.result })
    c.one_if.result (stepped (the_view c.self.inside) c.advance.new.tree c.advance.new.hooks c.advance.new.contexts c.in_ok-next.next c.one_if.result c.one_if.ensures c.in_ok-next.ensures.current c.in_ok-next.ensures.states
    (λ s k initials sees. c.in_ok-next.ensures.still s k initials (scene_seen _ (the_view c.self.inside) s _ c.seen.view_is refl c.deref.ensures.value c.deref-2.ensures.value refl refl refl refl sees))
    (λ s sees. c.in_ok-next.ensures.comes s (scene_seen _ (the_view c.self.inside) s _ c.seen.view_is refl c.deref.ensures.value c.deref-2.ensures.value refl refl refl refl sees))) (record { unit = c.cursors_are_drawn.ensures.unit; attempt = c.cursors_are_drawn.ensures.skips_attempt; subtree = c.cursors_are_drawn.ensures.takes_over }) c.in_ok-next.ensures.gathered

pub returns-in_err-next-clause-stopped : goal.returns-in_err-next-clause-stopped
returns-in_err-next-clause-stopped g c =
    on_err c.from_residual.result
    (breaks c.args.self.now (the_view c.self.inside) c.self.view_is c.self.invariant c.requires
    (record (the_view c.self.inside) { trees = c.advance.new.tree; hooks = c.advance.new.hooks; contexts = c.advance.new.contexts; at = Over }) refl c.in_err-next.ensures.current refl refl
    c.in_err-next.ensures.states)
