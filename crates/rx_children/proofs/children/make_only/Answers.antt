use Rattle.std.proofs.lemmas.Result.{on_ok_weaker}
use Rattle.rx_fiber.specs.Fibers.{as_matched}
use Rattle.rx_children.proofs.Only.{only_made, only_open, only_top, only_unused}
use Rattle.rx_children.proofs.children.make_only.Goals as goal

pub make_one-requires-clause-open : goal.make_one-requires-clause-open
make_one-requires-clause-open c =
    only_open (as_matched c.args.visible c.args.generation) c.args.tree.now c.args.at c.args.first_old c.match_only-old.result c.args.element.now c.requires.beside c.requires.held c.facts.ensures.linked c.place_facts.ensures c.match_only-old.ensures

pub make_one-requires-clause-old_child : goal.make_one-requires-clause-old_child
make_one-requires-clause-old_child c =
    only_top (as_matched c.args.visible c.args.generation) c.args.tree.now c.args.at c.args.first_old c.match_only-old.result c.args.element.now c.requires.beside c.requires.held c.facts.ensures.linked c.place_facts.ensures c.match_only-old.ensures

pub make_one-requires-clause-unused : goal.make_one-requires-clause-unused
make_one-requires-clause-unused c =
    only_unused (as_matched c.args.visible c.args.generation) c.args.tree.now c.args.at c.args.first_old c.match_only-old.result c.args.element.now c.requires.beside c.requires.held c.facts.ensures.linked c.place_facts.ensures c.match_only-old.ensures

pub returns-clause-made : goal.returns-clause-made
returns-clause-made c =
    on_ok_weaker c.make_one.result
    (only_made (as_matched c.args.visible c.args.generation) c.args.tree.now c.args.at c.args.first_old c.match_only-old.result c.args.element.now c.requires.beside c.requires.held c.facts.ensures.linked c.place_facts.ensures c.match_only-old.ensures c.make_one.new.tree)
    c.make_one.ensures.added
