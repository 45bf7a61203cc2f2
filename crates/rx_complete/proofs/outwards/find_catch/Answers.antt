use Rattle.std.proofs.Common.{inr, refl, sym, ap, ◌∙◌}
use Rattle.rx_fiber.specs.Unwound.{is_guarding}
use Rattle.rx_complete.proofs.Nearest.{at_first, passes, comes_to, unguarded}
use Rattle.rx_complete.proofs.Throwing.{here_below, goes_on, stops_at}
use Rattle.rx_complete.proofs.Waiting.{made_below, outer_made, outer_nearer}
use Rattle.rx_complete.proofs.outwards.find_catch.Goals as goal

pub outwards-init : goal.outwards-init
outwards-init c = ((λ levels fs w. (levels, fs, w, λ x. refl)), at_first is_guarding c.args.tree.now c.args.at)

pub parent-requires : goal.parent-requires
parent-requires c = inr (made_below _ _ _ c.place_facts.ensures (here_below _ _ _ _ _ c.outwards.invariant.0 c.requires.below))

pub value-fiber-requires : goal.value-fiber-requires
value-fiber-requires c =
    let below = here_below _ _ _ _ _ c.outwards.invariant.0 c.requires.below in
    inr (outer_made _ _ _ _ c.place_facts.ensures below (sym (c.parent.ensures.made (made_below _ _ _ c.place_facts.ensures below)) ∙ c.in-Some.is))

pub returns-then-guards-clause-caught : goal.returns-then-guards-clause-caught
returns-then-guards-clause-caught c =
    let below = here_below _ _ _ _ _ c.outwards.invariant.0 c.requires.below in
    let parent = sym (c.parent.ensures.made (made_below _ _ _ c.place_facts.ensures below)) ∙ c.in-Some.is in
    stops_at _ c.place_facts.ensures _ _ _ _ c.outwards.invariant.0 c.in-Some.outer c.value-fiber.result.now parent
    (c.value-fiber.ensures.made (outer_made _ _ _ _ c.place_facts.ensures below parent))
    (sym (ap is_guarding c.stage.ensures) ∙ (sym c.guards.ensures ∙ c.if-guards.true))

pub returns-then-guards-clause-nearest : goal.returns-then-guards-clause-nearest
returns-then-guards-clause-nearest c =
    let below = here_below _ _ _ _ _ c.outwards.invariant.0 c.requires.below in
    let parent = sym (c.parent.ensures.made (made_below _ _ _ c.place_facts.ensures below)) ∙ c.in-Some.is in
    comes_to is_guarding _ c.place_facts.ensures _ _ c.outwards.invariant.1 c.in-Some.outer c.value-fiber.result.now parent
    (c.value-fiber.ensures.made (outer_made _ _ _ _ c.place_facts.ensures below parent))
    (sym (ap is_guarding c.stage.ensures) ∙ (sym c.guards.ensures ∙ c.if-guards.true))

pub outwards-smaller : goal.outwards-smaller
outwards-smaller c =
    let below = here_below _ _ _ _ _ c.outwards.invariant.0 c.requires.below in
    outer_nearer _ _ _ _ c.place_facts.ensures c.facts.ensures.fits below (sym (c.parent.ensures.made (made_below _ _ _ c.place_facts.ensures below)) ∙ c.in-Some.is)

pub outwards-preserved : goal.outwards-preserved
outwards-preserved c =
    let below = here_below _ _ _ _ _ c.outwards.invariant.0 c.requires.below in
    let parent = sym (c.parent.ensures.made (made_below _ _ _ c.place_facts.ensures below)) ∙ c.in-Some.is in
    let value = c.value-fiber.ensures.made (outer_made _ _ _ _ c.place_facts.ensures below parent) in
    let not = sym (ap is_guarding c.stage.ensures) ∙ (sym c.guards.ensures ∙ c.if-guards.false) in (
      goes_on _ c.place_facts.ensures _ _ _ _ c.outwards.invariant.0 c.leave.new.contexts c.in-Some.outer c.value-fiber.result.now c.element.result.now
          parent value not c.element.ensures (c.leave.ensures.stack, c.leave.ensures.moves),
      passes is_guarding _ c.place_facts.ensures _ _ c.outwards.invariant.1 c.in-Some.outer c.value-fiber.result.now parent value not,
    )

pub unreachable-requires : goal.unreachable-requires
unreachable-requires c =
    let below = here_below _ _ _ _ _ c.outwards.invariant.0 c.requires.below in
    unguarded _ c.place_facts.ensures _ _ c.outwards.invariant.1 (sym (c.parent.ensures.made (made_below _ _ _ c.place_facts.ensures below)) ∙ c.in_default.is) c.requires.below c.requires.guarded
