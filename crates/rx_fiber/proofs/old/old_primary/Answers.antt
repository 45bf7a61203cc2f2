use Rattle.rx_fiber.proofs.OldReads.{some_held, kids_held}
use Rattle.rx_fiber.proofs.old.old_primary.Goals as goal

pub returns-clause-held : goal.returns-clause-held
returns-clause-held c =
    let h = some_held c.args.tree.now.current c.args.old c.in_ok-id.id c.requires c.in_ok-id.was in
    rw (c.first_child.ensures.current h) (kids_held c.args.tree.now.current c.facts.ensures.linked c.in_ok-id.id h)
