use Rattle.std.proofs.Common.{sym, subst}
use Rattle.rx_meaning.specs.Cursor.{at_end, unit}
use Rattle.rx_render.specs.Rendering.{ComesTo}
use Rattle.rx_render.proofs.Advancing.{leads_comes}
use Rattle.cost_laws.specs.Left.{outer}
use Rattle.rx_render.specs.Costing.{HasFlags}
use Rattle.rx_render.specs.Gathers.{IsGathering}
use Rattle.rx_render.proofs.Gathering.{end_gathered}
use Rattle.rx_render.proofs.Paying.{end_flags}
use Rattle.rx_render.proofs.advance.complete_node.Goals as goal

pub returns-clause-comes : goal.returns-clause-comes
returns-clause-comes c s levels fs o done h =
    subst (λ a. ComesTo c.complete.new.tree c.complete.new.contexts a (unit s (at_end levels fs o done))) (sym c.at_after.ensures)
    (leads_comes c.complete.new.tree c.complete.new.contexts c.complete.result (unit s (at_end levels fs o done)) (c.complete.ensures.leads s levels fs o done h) (c.complete.ensures.stands s levels fs o done h))

pub returns-clause-flags : goal.returns-clause-flags
returns-clause-flags c us h =
    subst (λ a. HasFlags c.complete.new.tree a (outer us)) (sym c.at_after.ensures)
    (end_flags c.args.tree.now c.complete.new.tree c.args.id c.complete.result _ c.facts.ensures.fits c.complete.ensures.marked c.complete.ensures.next us h)

pub returns-clause-gathered : goal.returns-clause-gathered
returns-clause-gathered c h =
    subst (IsGathering c.complete.new.tree) (sym c.at_after.ensures)
    (end_gathered c.args.tree.now c.complete.new.tree c.args.id c.complete.result c.facts.ensures.fits c.complete.ensures.marked c.complete.ensures.next h)
