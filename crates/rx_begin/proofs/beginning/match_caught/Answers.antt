use Rattle.std.proofs.Common.{ap, ◌∙◌}
use Rattle.rx_links.specs.Readers.{list_from}
use Rattle.rx_elem.specs.Trees.{of_catcher}
use Rattle.rx_catch.specs.declared.state.CatchState.TheVariants.{Caught}
use Rattle.rx_fiber.specs.Fibers.{as_matched, begun}
use Rattle.rx_fiber.specs.OldLists.{fallback_list}
use Rattle.rx_children.proofs.Nodes.{bare_made}
use Rattle.rx_begin.proofs.CaughtBefore.{caught_beside, matched_from}
use Rattle.rx_begin.proofs.beginning.match_caught.Goals as goal

pub open_list-requires-clause-beside : goal.open_list-requires-clause-beside
open_list-requires-clause-beside c =
    caught_beside c.args.tree.now c.args.at c.alternate.result c.old_fallback-first_old.result c.args.value c.place_facts.ensures c.facts.ensures.linked c.requires.bare c.requires.was c.requires.caught
    (c.alternate.ensures.made (bare_made c.args.tree.now c.args.at c.place_facts.ensures c.requires.bare)) c.old_fallback-first_old.ensures.list

pub returns-clause-opened : goal.returns-clause-opened
returns-clause-opened c =
    matched_from (as_matched c.args.steady c.args.generation) c.args.tree.now c.open_list.new.tree c.args.at (begun (of_catcher (Caught c.args.value))) _ _ _ _ c.in_ok-first.first c.begun_from.result
    (c.deref.ensures.value ∙ c.in_ok-fallback.ensures)
    (c.old_fallback-first_old.ensures.list
    ∙ ap (λ o. fallback_list (list_from c.args.tree.now.current o)) (c.alternate.ensures.made (bare_made c.args.tree.now c.args.at c.place_facts.ensures c.requires.bare)))
    c.in_ok-first.ensures.opened c.begun_from.ensures
