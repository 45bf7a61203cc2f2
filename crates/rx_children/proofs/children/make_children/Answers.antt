use Rattle.std.proofs.Common.{sym, ◌∙◌, length, eqb-true}
use Rattle.rx_links.specs.Readers.{list_from}
use Rattle.rx_fiber.specs.Fibers.{as_matched}
use Rattle.rx_fiber.specs.OldLists.{matched}
use Rattle.rx_children.proofs.Making.{none_yet}
use Rattle.rx_children.proofs.Matched.{matched_length}
use Rattle.rx_children.proofs.children.make_children.Goals as goal

pub returns-then-is_empty-clause-made : goal.returns-then-is_empty-clause-made
returns-then-is_empty-clause-made c =
    none_yet (as_matched c.args.visible c.args.generation) c.args.tree.now c.args.at 0 c.args.elements.now (matched (list_from c.args.tree.now.current c.args.first_old) c.args.elements.now)
    (sym (eqb-true (length c.args.elements.now) 0 (sym c.is_empty.ensures ∙ c.if-is_empty.true)))
    (matched_length (list_from c.args.tree.now.current c.args.first_old) c.args.elements.now)
