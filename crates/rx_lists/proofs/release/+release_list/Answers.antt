use Rattle.std.proofs.Common.{arith}
use Rattle.rx_lists.proofs.Freeing.{step-own, step-rest, step-live, step-smaller, step-ready, step-own-live, rest-ready, rest-smaller, rest-within, rest-gives, end-gives}
use Rattle.rx_lists.proofs.release.+release_list.Goals as goal

pub node-node-requires : goal.node-node-requires
node-node-requires g t c = step-live _ _ _ c.in-Some.is c.loop-next.invariant.ready

pub release_list-requires : goal.release_list-requires
release_list-requires g t c κs within = (
  rw (step-own _ _ _ c.in-Some.is c.loop-next.invariant.ready _ c.node-node.ensures.value _ c.own_of-kids.ensures) (omega (arith, step-smaller _ _ _ c.in-Some.is c.loop-next.invariant.ready, c.loop-next.invariant.within, c.decreases)),
  (within, rw (step-own _ _ _ c.in-Some.is c.loop-next.invariant.ready _ c.node-node.ensures.value _ c.own_of-kids.ensures) (step-ready _ _ _ c.in-Some.is c.loop-next.invariant.ready)),
)

pub release-requires : goal.release-requires
release-requires g t c =
    step-own-live _ _ _ c.in-Some.is c.loop-next.invariant.ready _ (rw (step-own _ _ _ c.in-Some.is c.loop-next.invariant.ready _ c.node-node.ensures.value _ c.own_of-kids.ensures) at c.release_list.ensures)

pub loop-next-smaller : goal.loop-next-smaller
loop-next-smaller g t c =
    rest-smaller _ _ _ c.in-Some.is c.loop-next.invariant.ready _ _ (rw (step-own _ _ _ c.in-Some.is c.loop-next.invariant.ready _ c.node-node.ensures.value _ c.own_of-kids.ensures) at c.release_list.ensures) c.release.ensures _ (step-rest _ _ _ c.in-Some.is c.loop-next.invariant.ready _ c.node-node.ensures.value _ c.sibling-rest.ensures)

pub loop-next-preserved : goal.loop-next-preserved
loop-next-preserved g t c = record {
  ready = rest-ready _ _ _ c.in-Some.is c.loop-next.invariant.ready _ _ (rw (step-own _ _ _ c.in-Some.is c.loop-next.invariant.ready _ c.node-node.ensures.value _ c.own_of-kids.ensures) at c.release_list.ensures) c.release.ensures _ (step-rest _ _ _ c.in-Some.is c.loop-next.invariant.ready _ c.node-node.ensures.value _ c.sibling-rest.ensures);
  gives = λ new f. c.loop-next.invariant.gives new
      (rest-gives _ _ _ c.in-Some.is c.loop-next.invariant.ready _ _ (rw (step-own _ _ _ c.in-Some.is c.loop-next.invariant.ready _ c.node-node.ensures.value _ c.own_of-kids.ensures) at c.release_list.ensures) c.release.ensures _ (step-rest _ _ _ c.in-Some.is c.loop-next.invariant.ready _ c.node-node.ensures.value _ c.sibling-rest.ensures) new f);
  within = rest-within _ _ _ c.in-Some.is c.loop-next.invariant.ready _ _ (rw (step-own _ _ _ c.in-Some.is c.loop-next.invariant.ready _ c.node-node.ensures.value _ c.own_of-kids.ensures) at c.release_list.ensures) c.release.ensures _ (step-rest _ _ _ c.in-Some.is c.loop-next.invariant.ready _ c.node-node.ensures.value _ c.sibling-rest.ensures) _ c.loop-next.invariant.within;
}

pub returns : goal.returns
returns g t c = c.loop-next.invariant.gives _ (end-gives _ _ c.in_default.is)
