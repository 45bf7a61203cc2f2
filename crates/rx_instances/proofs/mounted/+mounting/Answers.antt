use Rattle.std.proofs.Common.{List, ◌++◌, sym, ap, ◌∙◌, arith, append-nil}
use Rattle.rx_elem.specs.Spots.{Mounted}
use Rattle.rx_fiber.specs.declared.subtree.Subtree.{Subtree}
use Rattle.rx_fiber.proofs.OldReads.{kids_held}
use Rattle.rx_instances.proofs.Counting.{kids_smaller}
use Rattle.rx_instances.proofs.Passed.{passed_mounted, untold}
use Rattle.rx_instances.proofs.mounted.+mounting.Goals as goal

pub add_from-returns-then-not-subtree : goal.add_from-returns-then-not-subtree
add_from-returns-then-not-subtree t c =
    let current = c.args.tree.now.current in
    let none =
    passed_mounted current c.facts.ensures.linked c.requires.gathered c.args.id c.requires.held c.value-fiber.result.now (c.value-fiber.ensures.current c.requires.held) c.args.around
    (untold _ _ (ap (λ (x : Subtree). x.instances) c.subtree.ensures) c.if-not-subtree.true) in
    sym (ap (λ (ms : List Mounted). c.args.found.now.items ++ ms) none ∙ append-nil c.args.found.now.items)

pub add_from-add_in-requires : goal.add_from-add_in-requires
add_from-add_in-requires t c =
    let current = c.args.tree.now.current in
    let linked = c.facts.ensures.linked in
    let below = c.first_child.ensures.current c.requires.held in
    let smaller = kids_smaller current linked c.args.id c.first_child.result c.requires.held below in
    (omega (arith, c.decreases, smaller), (rw below (kids_held current linked c.args.id c.requires.held), c.requires.gathered))
