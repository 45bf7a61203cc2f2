use Rattle.std.proofs.Common.{refl, sym}
use Rattle.rx_begin.proofs.CaughtBefore.{mark_caught}
use Rattle.rx_begin.proofs.Hiding.{caught_begins, node_begins}
use Rattle.rx_begin.proofs.beginning.begin_other.Goals as goal

pub begin_caught-requires-clause-caught : goal.begin_caught-requires-clause-caught
begin_caught-requires-clause-caught c = mark_caught c.args.tree.now c.args.at c.args.element.now c.in-Some.value (sym c.in-Some.ensures)

pub returns-in-Some-clause-begun : goal.returns-in-Some-clause-begun
returns-in-Some-clause-begun c =
    caught_begins c.args.tree.now c.args.contexts.now c.begin_caught.new.tree c.args.contexts.now c.args.at c.args.element.now c.args.place.origin c.args.place.again c.args.place.steady c.args.place.generation
    c.begin_caught.result c.in-Some.value (sym c.in-Some.ensures) c.begin_caught.ensures.kept c.begin_caught.ensures.opened refl

pub returns-in-None-clause-begun : goal.returns-in-None-clause-begun
returns-in-None-clause-begun c =
    node_begins c.args.tree.now c.args.contexts.now c.begin_node.new.tree c.begin_node.new.contexts c.args.at c.args.element.now c.args.place.origin c.args.place.again c.args.place.steady c.args.place.generation
    c.begin_node.result (sym c.in-None.ensures) c.begin_node.ensures.kept c.begin_node.ensures.opened c.begin_node.ensures.stack
