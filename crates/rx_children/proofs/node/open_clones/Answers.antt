use Rattle.std.proofs.Common.{inr}
use Rattle.rx_links.specs.Readers.{list_from}
use Rattle.rx_fiber.specs.Fibers.{as_cloned}
use Rattle.rx_fiber.specs.FiberView.{stage_seen}
use Rattle.rx_fiber.specs.OldLists.{old_elements, old_fibers}
use Rattle.rx_children.proofs.Nodes.{still_made, made_new, has_list}
use Rattle.rx_children.proofs.node.open_clones.Goals as goal

pub give-requires : goal.give-requires
give-requires c =
    still_made (as_cloned c.args.visible) c.args.tree.now c.clone_children.new.tree c.args.tree.now c.args.at c.args.first_old (stage_seen c.args.stage) (old_elements (list_from c.args.tree.now.current c.args.first_old)) (old_fibers (list_from c.args.tree.now.current c.args.first_old)) c.requires.beside c.in_ok-clone_children.ensures.made c.place_facts.ensures

pub first_child-requires : goal.first_child-requires
first_child-requires c =
    inr (made_new (as_cloned c.args.visible) c.args.tree.now c.clone_children.new.tree c.give.new.self c.args.at c.args.first_old (stage_seen c.args.stage) (old_elements (list_from c.args.tree.now.current c.args.first_old)) (old_fibers (list_from c.args.tree.now.current c.args.first_old)) c.requires.beside c.in_ok-clone_children.ensures.made
    c.place_facts.ensures c.give.ensures c.place_facts-2.ensures)

pub returns-clause-opened : goal.returns-clause-opened
returns-clause-opened c =
    has_list (as_cloned c.args.visible) c.args.tree.now c.clone_children.new.tree c.give.new.self c.args.at c.args.first_old (stage_seen c.args.stage) (old_elements (list_from c.args.tree.now.current c.args.first_old))
    (old_fibers (list_from c.args.tree.now.current c.args.first_old)) c.requires.beside c.in_ok-clone_children.ensures.made
    c.place_facts.ensures c.give.ensures c.place_facts-2.ensures c.first_child.result
    (c.first_child.ensures.made
    (made_new (as_cloned c.args.visible) c.args.tree.now c.clone_children.new.tree c.give.new.self c.args.at c.args.first_old (stage_seen c.args.stage) (old_elements (list_from c.args.tree.now.current c.args.first_old))
    (old_fibers (list_from c.args.tree.now.current c.args.first_old)) c.requires.beside c.in_ok-clone_children.ensures.made
    c.place_facts.ensures c.give.ensures c.place_facts-2.ensures))
