use Rattle.rx_fiber.proofs.OldReads.{kids_held}
use Rattle.rx_instances.proofs.Awaiting.{kept_kids, shown_kids}
use Rattle.rx_instances.proofs.awaits.visible_child.Goals as goal

pub returns-then-keeps-clause-list : goal.returns-then-keeps-clause-list
returns-then-keeps-clause-list c =
    kept_kids c.args.tree.now.current c.facts.ensures.linked c.args.id c.requires c.next_sibling.result c.keeps.result (c.next_sibling.ensures.current c.requires) c.keeps.ensures c.if-keeps.true

pub returns-clause-held : goal.returns-clause-held
returns-clause-held c = rw (c.first_child.ensures.current c.requires) (kids_held c.args.tree.now.current c.facts.ensures.linked c.args.id c.requires)

pub returns-clause-list : goal.returns-clause-list
returns-clause-list c =
    shown_kids c.args.tree.now.current c.facts.ensures.linked c.args.id c.requires c.next_sibling.result c.first_child.result c.keeps.result (c.next_sibling.ensures.current c.requires)
    (c.first_child.ensures.current c.requires) c.keeps.ensures c.if-keeps.false
