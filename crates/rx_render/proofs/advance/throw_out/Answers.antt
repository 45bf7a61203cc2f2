use Rattle.std.proofs.Common.{subst, sym}
use Rattle.rx_lists.specs.Shapes.{none}
use Rattle.rx_links.specs.Drafts.{taken}
use Rattle.rx_meaning.specs.Cursor.{unwind_throw}
use Rattle.rx_render.specs.Rendering.{ComesTo}
use Rattle.rx_render.specs.Gathers.{IsGathering}
use Rattle.rx_render.proofs.Advancing.{caught, opened_comes}
use Rattle.cost_laws.specs.Left.{thrown_past}
use Rattle.rx_render.specs.Costing.{HasFlags}
use Rattle.rx_render.proofs.Gathering.{thrown_gathered}
use Rattle.rx_render.proofs.Paying.{thrown_flags}
use Rattle.rx_render.proofs.advance.throw_out.Goals as goal

pub open_caught-requires : goal.open_caught-requires
open_caught-requires c =
    caught c.args.tree.now c.unwind_to_catch-boundary.new.tree c.args.contexts.now c.unwind_to_catch-boundary.new.contexts c.args.id c.unwind_to_catch-boundary.result c.args.value c.requires.below
    (c.unwind_to_catch-boundary.ensures.caught c.args.value)

pub returns-clause-comes : goal.returns-clause-comes
returns-clause-comes c levels fs w =
    let next = unwind_throw levels fs c.args.value in
    subst (λ a. ComesTo c.open_caught.new.tree c.unwind_to_catch-boundary.new.contexts a next) (sym c.at_opened.ensures)
    (opened_comes c.open_caught.new.tree c.unwind_to_catch-boundary.new.contexts c.in_ok-opened.opened next
    (c.in_ok-opened.ensures.opened c.unwind_to_catch-boundary.new.contexts next (c.unwind_to_catch-boundary.ensures.caught c.args.value levels fs w)))

pub returns-clause-flags : goal.returns-clause-flags
returns-clause-flags c fs us h within =
    subst (λ a. HasFlags c.open_caught.new.tree a (thrown_past fs us)) (sym c.at_opened.ensures)
    (thrown_flags c.args.tree.now c.facts.ensures.fits c.args.contexts.now c.args.id fs us h within c.unwind_to_catch-boundary.new.tree c.open_caught.new.tree c.unwind_to_catch-boundary.result
    c.in_ok-opened.opened c.facts-2.ensures.fits c.unwind_to_catch-boundary.ensures.current (c.unwind_to_catch-boundary.ensures.nearest h.around h.value h.old (taken none) h.rest h.here)
    (caught c.args.tree.now c.unwind_to_catch-boundary.new.tree c.args.contexts.now c.unwind_to_catch-boundary.new.contexts c.args.id c.unwind_to_catch-boundary.result c.args.value c.requires.below
    (c.unwind_to_catch-boundary.ensures.caught c.args.value))
    c.open_caught.ensures.current c.in_ok-opened.ensures.kids)

pub returns-clause-gathered : goal.returns-clause-gathered
returns-clause-gathered c current h =
    subst (IsGathering c.open_caught.new.tree) (sym c.at_opened.ensures)
    (thrown_gathered c.args.tree.now c.unwind_to_catch-boundary.new.tree c.open_caught.new.tree c.unwind_to_catch-boundary.result c.args.id c.in_ok-opened.opened h
    c.unwind_to_catch-boundary.ensures.current c.open_caught.ensures.current (c.unwind_to_catch-boundary.ensures.nearest h.0.around h.0.value h.0.old (taken none) h.0.rest h.0.here)
    c.in_ok-opened.ensures.kids current)
