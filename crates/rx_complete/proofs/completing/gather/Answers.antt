use Rattle.std.proofs.Common.{inr, ap, ◌∙◌}
use Rattle.rx_fiber.specs.Fibers.{joined}
use Rattle.rx_complete.proofs.Gathering.{list_made, along_first, along_here, here_made, along_more, along_fewer, along_end}
use Rattle.rx_complete.proofs.completing.gather.Goals as goal

pub first_child-next-requires : goal.first_child-next-requires
first_child-next-requires c = inr (list_made c.args.tree.now c.args.at c.place_facts.ensures c.requires)

pub gathering-init : goal.gathering-init
gathering-init c =
    along_first c.args.tree.now c.args.at c.place_facts.ensures c.requires c.nothing-below.result c.first_child-next.result c.nothing-below.ensures
    (c.first_child-next.ensures.made (list_made c.args.tree.now c.args.at c.place_facts.ensures c.requires))

pub value-requires : goal.value-requires
value-requires c =
    inr (here_made c.args.tree.now c.args.at c.gathering.below c.in-Some.id c.place_facts.ensures
    (along_here c.args.tree.now c.args.at c.gathering.below c.gathering.next c.in-Some.id c.gathering.invariant c.in-Some.is))

pub next_sibling-next-requires : goal.next_sibling-next-requires
next_sibling-next-requires c =
    inr (here_made c.args.tree.now c.args.at c.gathering.below c.in-Some.id c.place_facts.ensures
    (along_here c.args.tree.now c.args.at c.gathering.below c.gathering.next c.in-Some.id c.gathering.invariant c.in-Some.is))

pub gathering-preserved : goal.gathering-preserved
gathering-preserved c =
    let here = along_here c.args.tree.now c.args.at c.gathering.below c.gathering.next c.in-Some.id c.gathering.invariant c.in-Some.is in
    let m = here_made c.args.tree.now c.args.at c.gathering.below c.in-Some.id c.place_facts.ensures here in
    along_more c.args.tree.now c.args.at c.gathering.below c.in-Some.id c.place_facts.ensures here c.value.result.now c.join-below.result c.next_sibling-next.result
    (c.value.ensures.made m) (c.join-below.ensures ∙ ap (joined c.gathering.below) c.subtree.ensures) (c.next_sibling-next.ensures.made m)

pub gathering-smaller : goal.gathering-smaller
gathering-smaller c =
    let here = along_here c.args.tree.now c.args.at c.gathering.below c.gathering.next c.in-Some.id c.gathering.invariant c.in-Some.is in
    let m = here_made c.args.tree.now c.args.at c.gathering.below c.in-Some.id c.place_facts.ensures here in
    along_fewer c.args.tree.now c.args.at c.gathering.below c.in-Some.id c.place_facts.ensures here c.gathering.next c.next_sibling-next.result c.in-Some.is (c.next_sibling-next.ensures.made m)

pub returns : goal.returns
returns c = along_end c.args.tree.now c.args.at c.gathering.below c.gathering.next c.gathering.invariant c.in_default.is
