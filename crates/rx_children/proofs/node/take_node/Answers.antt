use Rattle.rx_node.specs.MarkView.{mark_seen}
use Rattle.rx_children.proofs.Nodes.{bare_made}
use Rattle.rx_children.proofs.Taking.{bare_is, took_made, given_made, taken_so}
use Rattle.rx_children.proofs.node.take_node.Goals as goal

pub take_over-requires : goal.take_over-requires
take_over-requires c = bare_is c.args.tree.now c.args.at c.place_facts.ensures c.requires.bare

pub give-requires : goal.give-requires
give-requires c = took_made c.args.tree.now c.take_over.new.self c.args.at c.place_facts.ensures c.take_over.ensures c.requires.bare c.place_facts-2.ensures

pub mark_made-requires : goal.mark_made-requires
mark_made-requires c =
    given_made c.args.tree.now c.take_over.new.self c.args.at c.place_facts.ensures c.take_over.ensures c.place_facts-2.ensures (mark_seen c.in_ok-mark.mark) c.give.new.self c.give.ensures c.place_facts-3.ensures c.requires.bare

pub returns-clause-taken : goal.returns-clause-taken
returns-clause-taken c =
    taken_so c.args.tree.now c.take_over.new.self c.args.at c.place_facts.ensures c.take_over.ensures c.place_facts-2.ensures (mark_seen c.in_ok-mark.mark) c.give.new.self c.give.ensures c.place_facts-3.ensures
    c.mark_made.new.self c.alternate.result c.alternate-2.result c.old_subtree-below.result (c.alternate.ensures.made (bare_made c.args.tree.now c.args.at c.place_facts.ensures c.requires.bare)) c.in_ok-mark.ensures
    (c.alternate-2.ensures.made (bare_made c.args.tree.now c.args.at c.place_facts.ensures c.requires.bare)) c.old_subtree-below.ensures c.mark_made.ensures
