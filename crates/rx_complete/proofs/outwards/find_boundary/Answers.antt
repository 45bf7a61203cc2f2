use Rattle.std.proofs.Common.{inr, refl, sym, ap, ◌∙◌}
use Rattle.rx_fiber.specs.Unwound.{is_trying, passed_on}
use Rattle.rx_complete.proofs.Nearest.{at_first, passes, comes_to, comes_to_none}
use Rattle.rx_complete.proofs.Waiting.{here_below, made_below, outer_made, outer_nearer, goes_on, stops_at, ends_at}
use Rattle.rx_complete.proofs.outwards.find_boundary.Goals as goal

pub outwards-init : goal.outwards-init
outwards-init c = ((λ levels fs w. (levels, fs, w, refl)), at_first is_trying c.args.tree.now c.args.at)

pub parent-requires : goal.parent-requires
parent-requires c = inr (made_below _ _ _ c.place_facts.ensures (here_below _ _ _ _ _ _ _ c.outwards.invariant.0 c.requires))

pub value-fiber-requires : goal.value-fiber-requires
value-fiber-requires c =
    let below = here_below _ _ _ _ _ _ _ c.outwards.invariant.0 c.requires in
    inr (outer_made _ _ _ _ c.place_facts.ensures below (sym (c.parent.ensures.made (made_below _ _ _ c.place_facts.ensures below)) ∙ c.in-Some.is))

pub returns-then-tries-clause-left : goal.returns-then-tries-clause-left
returns-then-tries-clause-left c =
    let below = here_below _ _ _ _ _ _ _ c.outwards.invariant.0 c.requires in
    let parent = sym (c.parent.ensures.made (made_below _ _ _ c.place_facts.ensures below)) ∙ c.in-Some.is in
    stops_at _ c.place_facts.ensures _ _ _ _ _ _ c.outwards.invariant.0 c.in-Some.outer c.value-fiber.result.now parent
    (c.value-fiber.ensures.made (outer_made _ _ _ _ c.place_facts.ensures below parent))
    (sym (ap is_trying c.stage.ensures) ∙ (sym c.tries.ensures ∙ c.if-tries.true))

pub returns-then-tries-clause-nearest : goal.returns-then-tries-clause-nearest
returns-then-tries-clause-nearest c =
    let below = here_below _ _ _ _ _ _ _ c.outwards.invariant.0 c.requires in
    let parent = sym (c.parent.ensures.made (made_below _ _ _ c.place_facts.ensures below)) ∙ c.in-Some.is in
    comes_to is_trying _ c.place_facts.ensures _ _ c.outwards.invariant.1 c.in-Some.outer c.value-fiber.result.now parent
    (c.value-fiber.ensures.made (outer_made _ _ _ _ c.place_facts.ensures below parent))
    (sym (ap is_trying c.stage.ensures) ∙ (sym c.tries.ensures ∙ c.if-tries.true))

pub outwards-smaller : goal.outwards-smaller
outwards-smaller c =
    let below = here_below _ _ _ _ _ _ _ c.outwards.invariant.0 c.requires in
    outer_nearer _ _ _ _ c.place_facts.ensures c.facts.ensures.fits below (sym (c.parent.ensures.made (made_below _ _ _ c.place_facts.ensures below)) ∙ c.in-Some.is)

pub outwards-preserved : goal.outwards-preserved
outwards-preserved c =
    let below = here_below _ _ _ _ _ _ _ c.outwards.invariant.0 c.requires in
    let parent = sym (c.parent.ensures.made (made_below _ _ _ c.place_facts.ensures below)) ∙ c.in-Some.is in
    let value = c.value-fiber.ensures.made (outer_made _ _ _ _ c.place_facts.ensures below parent) in
    let not = sym (ap is_trying c.stage.ensures) ∙ (sym c.tries.ensures ∙ c.if-tries.false) in (
      goes_on _ c.place_facts.ensures _ _ _ _ _ _ c.outwards.invariant.0 c.leave.new.contexts c.in-Some.outer c.value-fiber.result.now c.element.result.now c.past.result
          parent value not c.element.ensures (c.leave.ensures.stack, c.leave.ensures.moves) (c.past.ensures ∙ ap (λ s. passed_on s c.outwards.awaits) c.stage-in-Some.ensures),
      passes is_trying _ c.place_facts.ensures _ _ c.outwards.invariant.1 c.in-Some.outer c.value-fiber.result.now parent value not,
    )

pub returns-clause-left : goal.returns-clause-left
returns-clause-left c =
    let below = here_below _ _ _ _ _ _ _ c.outwards.invariant.0 c.requires in
    ends_at _ c.place_facts.ensures _ _ _ _ _ _ c.outwards.invariant.0 (sym (c.parent.ensures.made (made_below _ _ _ c.place_facts.ensures below)) ∙ c.in_default.is)

pub returns-clause-nearest : goal.returns-clause-nearest
returns-clause-nearest c =
    let below = here_below _ _ _ _ _ _ _ c.outwards.invariant.0 c.requires in
    comes_to_none is_trying _ c.place_facts.ensures _ _ c.outwards.invariant.1 (sym (c.parent.ensures.made (made_below _ _ _ c.place_facts.ensures below)) ∙ c.in_default.is)
