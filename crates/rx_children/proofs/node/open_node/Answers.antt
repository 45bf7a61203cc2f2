use Rattle.std.proofs.Common.{ap, subst, ◌∙◌}
use Rattle.rx_links.specs.Readers.{list_from}
use Rattle.rx_fiber.specs.Fibers.{as_matched}
use Rattle.rx_fiber.specs.FiberView.{stage_seen}
use Rattle.rx_fiber.specs.OldLists.{matched, primary_list}
use Rattle.rx_children.specs.Nodes.{HasOpened}
use Rattle.rx_children.proofs.Nodes.{bare_beside, bare_made, opened_from}
use Rattle.rx_children.proofs.node.open_node.Goals as goal

pub open_list-requires-clause-beside : goal.open_list-requires-clause-beside
open_list-requires-clause-beside c =
    bare_beside c.args.tree.now c.args.at c.alternate.result c.old_primary-first_old.result c.place_facts.ensures c.facts.ensures.linked c.requires.bare
    (c.alternate.ensures.made (bare_made c.args.tree.now c.args.at c.place_facts.ensures c.requires.bare)) c.old_primary-first_old.ensures.list

pub returns-clause-opened : goal.returns-clause-opened
returns-clause-opened c =
    subst (λ s. HasOpened (as_matched c.args.steady c.args.generation) c.args.tree.now c.open_list.new.tree c.args.at (stage_seen c.args.stage) c.args.elements.now (matched s c.args.elements.now) c.begun_from.result)
    (c.old_primary-first_old.ensures.list
    ∙ ap (λ o. primary_list (list_from c.args.tree.now.current o)) (c.alternate.ensures.made (bare_made c.args.tree.now c.args.at c.place_facts.ensures c.requires.bare)))
    (opened_from (as_matched c.args.steady c.args.generation) c.args.tree.now c.open_list.new.tree c.args.at (stage_seen c.args.stage) c.args.elements.now
    (matched (list_from c.args.tree.now.current c.old_primary-first_old.result) c.args.elements.now) c.in_ok-first.first c.begun_from.result c.in_ok-first.ensures.opened c.begun_from.ensures)
