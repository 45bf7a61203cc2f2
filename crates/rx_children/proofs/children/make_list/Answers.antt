use Rattle.std.proofs.Common.{◌∙◌, ap, length}
use Rattle.rx_links.specs.Readers.{list_from}
use Rattle.rx_children.proofs.Matched.{matched_length, room_for}
use Rattle.rx_children.proofs.children.make_list.Goals as goal

pub make_all-requires-clause-room : goal.make_all-requires-clause-room
make_all-requires-clause-room c =
    room_for c.args.tree.now c.args.at c.args.first_old c.args.elements.now c.deref.result.now c.requires.beside c.requires.held c.facts.ensures.linked
    (c.deref.ensures.value ∙ c.in_ok-olds.ensures.fibers)

pub make_all-requires-clause-same : goal.make_all-requires-clause-same
make_all-requires-clause-same c = ap length (c.deref.ensures.value ∙ c.in_ok-olds.ensures.fibers) ∙ matched_length (list_from c.args.tree.now.current c.args.first_old) c.args.elements.now
