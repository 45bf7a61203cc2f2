use Rattle.std.proofs.Common.{◌∙◌, ap}
use Rattle.rx_fiber.specs.Fibers.{joined}
use Rattle.rx_fiber.proofs.Gathered.{one_joined}
use Rattle.rx_fiber.proofs.OldReads.{some_held, rest_held}
use Rattle.rx_fiber.proofs.old.list_subtree.Goals as goal

pub gathering-preserved : goal.gathering-preserved
gathering-preserved c =
    let trees = c.args.tree.now.current in
    let h = some_held trees c.gathering.next c.in-Some.id c.gathering.invariant.held c.in-Some.is in
    let beyond = c.next_sibling-next.ensures.current h in
    record {
      held = rw beyond (rest_held trees c.facts.ensures.linked c.in-Some.id h);
      tells = one_joined trees c.facts.ensures.linked c.in-Some.id h c.gathering.next c.next_sibling-next.result c.value.result.now c.in-Some.is (c.value.ensures.current h) beyond
          c.gathering.below c.join-below.result _ c.gathering.invariant.tells (c.join-below.ensures ∙ ap (joined c.gathering.below) c.subtree.ensures);
    }
