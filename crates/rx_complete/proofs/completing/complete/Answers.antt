use Rattle.std.proofs.Common.{inr, ◌∙◌}
use Rattle.rx_complete.proofs.Completed.{end_made, end_list, still_made, next_same, marked_stands, marked_leads}
use Rattle.rx_complete.proofs.completing.complete.Goals as goal

pub value-requires : goal.value-requires
value-requires c = inr (end_made c.args.tree.now c.args.contexts.now c.args.at c.place_facts.ensures c.requires)

pub mark_made-requires : goal.mark_made-requires
mark_made-requires c = end_made c.args.tree.now c.args.contexts.now c.args.at c.place_facts.ensures c.requires

pub next_of-requires : goal.next_of-requires
next_of-requires c =
    still_made c.gather-below.result c.args.tree.now c.mark_made.new.self c.args.contexts.now c.args.at c.place_facts.ensures c.mark_made.ensures c.place_facts-2.ensures c.requires

pub returns-clause-stands : goal.returns-clause-stands
returns-clause-stands c s levels fs x done h =
    let made = end_made c.args.tree.now c.args.contexts.now c.args.at c.place_facts.ensures c.requires in
    marked_stands c.gather-below.result c.args.tree.now c.args.contexts.now c.args.at levels fs x done h c.place_facts.ensures s c.mark_made.new.self c.leave.new.contexts
    c.next_of.result c.element.result.now c.value.result.now c.mark_made.ensures c.place_facts-2.ensures (c.value.ensures.made made) c.element.ensures
    (c.leave.ensures.stack, c.leave.ensures.moves) c.next_of.ensures

pub returns-clause-leads : goal.returns-clause-leads
returns-clause-leads c s levels fs x done h =
    marked_leads c.gather-below.result c.args.tree.now c.args.contexts.now c.args.at levels fs x done h c.place_facts.ensures s c.mark_made.new.self c.next_of.result
    c.mark_made.ensures c.place_facts-2.ensures c.next_of.ensures

pub returns-clause-next : goal.returns-clause-next
returns-clause-next c =
    c.next_of.ensures
    ∙ next_same c.gather-below.result c.args.tree.now c.mark_made.new.self c.args.contexts.now c.args.at c.place_facts.ensures c.mark_made.ensures c.place_facts-2.ensures c.requires

pub gather-below-requires : goal.gather-below-requires
gather-below-requires c = end_list c.args.tree.now c.args.contexts.now c.args.at c.requires
