use Rattle.std.proofs.Common.{IfSome, subst, sym}
use Rattle.rx_lists.specs.Shapes.{Holds}
use Rattle.rx_fiber.proofs.OldReads.{some_held, kids_held}
use Rattle.rx_fiber.proofs.old.kids_subtree.Goals as goal

pub list_subtree-requires : goal.list_subtree-requires
list_subtree-requires c =
    let trees = c.args.tree.now.current in
    let h = some_held trees c.args.old c.in-Some.id c.requires c.in-Some.is in
    subst (λ o. IfSome o (Holds trees)) (sym (c.first_child.ensures.current h)) (kids_held trees c.facts.ensures.linked c.in-Some.id h)
