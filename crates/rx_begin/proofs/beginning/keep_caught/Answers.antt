use Rattle.std.proofs.Common.{ap, subst, ◌∙◌}
use Rattle.rx_links.specs.Readers.{list_from}
use Rattle.rx_elem.specs.Trees.{of_catcher}
use Rattle.rx_catch.specs.declared.state.CatchState.TheVariants.{Caught}
use Rattle.rx_fiber.specs.Fibers.{as_cloned, begun}
use Rattle.rx_fiber.specs.OldLists.{fallback_list, old_elements, old_fibers}
use Rattle.rx_children.specs.Nodes.{HasOpened}
use Rattle.rx_children.proofs.Nodes.{bare_made, opened_from}
use Rattle.rx_begin.proofs.CaughtBefore.{caught_beside}
use Rattle.rx_begin.proofs.beginning.keep_caught.Goals as goal

pub open_clones-requires-clause-beside : goal.open_clones-requires-clause-beside
open_clones-requires-clause-beside c =
    caught_beside c.args.tree.now c.args.at c.alternate.result c.old_fallback-first_old.result c.args.value c.place_facts.ensures c.facts.ensures.linked c.requires.bare c.requires.was c.requires.caught
    (c.alternate.ensures.made (bare_made c.args.tree.now c.args.at c.place_facts.ensures c.requires.bare)) c.old_fallback-first_old.ensures.list

pub returns-clause-opened : goal.returns-clause-opened
returns-clause-opened c =
    subst (λ s. HasOpened (as_cloned c.args.steady) c.args.tree.now c.open_clones.new.tree c.args.at (begun (of_catcher (Caught c.args.value))) (old_elements s) (old_fibers s) c.begun_from.result)
    (c.old_fallback-first_old.ensures.list
    ∙ ap (λ o. fallback_list (list_from c.args.tree.now.current o)) (c.alternate.ensures.made (bare_made c.args.tree.now c.args.at c.place_facts.ensures c.requires.bare)))
    (opened_from (as_cloned c.args.steady) c.args.tree.now c.open_clones.new.tree c.args.at (begun (of_catcher (Caught c.args.value))) (old_elements (list_from c.args.tree.now.current c.old_fallback-first_old.result))
    (old_fibers (list_from c.args.tree.now.current c.old_fallback-first_old.result)) c.in_ok-first.first c.begun_from.result c.in_ok-first.ensures.opened c.begun_from.ensures)
