use Rattle.std.proofs.Common.{sym, ap, ◌∙◌, subst}
use Rattle.rx_base.specs.Awaits.{one}
use Rattle.rx_lists.specs.Shapes.{none}
use Rattle.rx_links.specs.Drafts.{taken}
use Rattle.rx_meaning.specs.Cursor.{unwind}
use Rattle.rx_fiber.specs.Unwound.{IsLeftAt}
use Rattle.rx_render.specs.declared.at.At.TheVariants.{Over}
use Rattle.rx_render.specs.Rendering.{ComesTo, to_wait}
use Rattle.rx_render.proofs.Advancing.{stopped, opened_comes}
use Rattle.cost_laws.specs.Left.{unwound}
use Rattle.rx_render.specs.Costing.{HasFlags}
use Rattle.rx_render.specs.Gathers.{IsGathering}
use Rattle.rx_render.proofs.Gathering.{unwound_gathered}
use Rattle.rx_render.proofs.Paying.{unwound_flags}
use Rattle.rx_render.proofs.advance.suspend.Goals as goal

pub open_fallback-requires : goal.open_fallback-requires
open_fallback-requires c =
    stopped c.args.tree.now c.unwind_to_boundary.new.tree c.args.contexts.now c.unwind_to_boundary.new.contexts c.args.id c.in-Some.boundary c.awaits_for-awaits.result
    c.unwind_to_boundary.new.awaits c.requires c.in-Some.ensures.left

pub returns-in-None-clause-comes : goal.returns-in-None-clause-comes
returns-in-None-clause-comes c levels fs w =
    let left = c.in-None.ensures.left levels fs w in
    subst (ComesTo c.discard.new.self c.unwind_to_boundary.new.contexts Over) (sym (ap (unwind levels fs) (sym c.awaits_for-awaits.ensures) ∙ left.0)) to_wait

pub returns-in_ok-opened-in-Some-clause-comes : goal.returns-in_ok-opened-in-Some-clause-comes
returns-in_ok-opened-in-Some-clause-comes c levels fs w =
    let next = unwind levels fs (one c.args.resource) in
    subst (λ a. ComesTo c.open_fallback.new.tree c.unwind_to_boundary.new.contexts a next) (sym c.at_opened.ensures)
    (opened_comes c.open_fallback.new.tree c.unwind_to_boundary.new.contexts c.in_ok-opened-in-Some.opened next
    (c.in_ok-opened-in-Some.ensures.opened c.unwind_to_boundary.new.contexts next
    (subst (IsLeftAt c.unwind_to_boundary.new.tree c.unwind_to_boundary.new.contexts c.in-Some.boundary (taken none) c.unwind_to_boundary.new.awaits)
    (ap (unwind levels fs) c.awaits_for-awaits.ensures) (c.in-Some.ensures.left levels fs w))))

pub returns-in_ok-opened-in-Some-clause-flags : goal.returns-in_ok-opened-in-Some-clause-flags
returns-in_ok-opened-in-Some-clause-flags c fs us h within =
    subst (λ a. HasFlags c.open_fallback.new.tree a (unwound fs us)) (sym c.at_opened.ensures)
    (unwound_flags c.args.tree.now c.facts.ensures.fits c.args.contexts.now c.args.id fs us h within c.unwind_to_boundary.new.tree c.open_fallback.new.tree c.in-Some.boundary
    c.in_ok-opened-in-Some.opened c.facts-in-Some.ensures.fits c.unwind_to_boundary.ensures.current (c.in-Some.ensures.nearest h.around h.value h.old (taken none) h.rest h.here)
    c.unwind_to_boundary.new.awaits
    (stopped c.args.tree.now c.unwind_to_boundary.new.tree c.args.contexts.now c.unwind_to_boundary.new.contexts c.args.id c.in-Some.boundary c.awaits_for-awaits.result
    c.unwind_to_boundary.new.awaits c.requires c.in-Some.ensures.left)
    c.open_fallback.ensures.current (λ v there. let k = c.in_ok-opened-in-Some.ensures.kids v there in (_, k.2)))

pub returns-in-None-clause-gathered : goal.returns-in-None-clause-gathered
returns-in-None-clause-gathered c current h = subst (λ x. IsGathering x Over) (sym c.discard.ensures) (tt, tt)

pub returns-in_ok-opened-in-Some-clause-gathered : goal.returns-in_ok-opened-in-Some-clause-gathered
returns-in_ok-opened-in-Some-clause-gathered c current h =
    subst (IsGathering c.open_fallback.new.tree) (sym c.at_opened.ensures)
    (unwound_gathered c.args.tree.now c.unwind_to_boundary.new.tree c.open_fallback.new.tree c.in-Some.boundary c.args.id c.in_ok-opened-in-Some.opened h c.facts-in-Some.ensures.fits
    c.unwind_to_boundary.ensures.current c.open_fallback.ensures.current (c.in-Some.ensures.nearest h.0.around h.0.value h.0.old (taken none) h.0.rest h.0.here) (λ v there. let k = c.in_ok-opened-in-Some.ensures.kids v there in (_, k.2)) current)
