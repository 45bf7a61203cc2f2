use Rattle.std.proofs.Common.{arith}
use Rattle.rx_lists.proofs.Adopting.{adopt-live, child-here, sibling-here, adopt-own, adopt-kids-read, adopt-kids-once, adopt-smaller, adopt-can, adopt-rest-can, adopt-rest-smaller, adopt-rest-within, adopt-gives, adopt-end}
use Rattle.rx_lists.proofs.returns.+adopt.Goals as goal

pub set_returns-requires-clause-read : goal.set_returns-requires-clause-read
set_returns-requires-clause-read g t c = adopt-kids-read _ _ _ c.in-Some.is c.loop-next.invariant.can _ (child-here _ _ _ c.in-Some.is c.loop-next.invariant.can _ c.node-node.ensures.value _ c.child-kids.ensures)

pub set_returns-requires-clause-once : goal.set_returns-requires-clause-once
set_returns-requires-clause-once g t c = adopt-kids-once _ _ _ c.in-Some.is c.loop-next.invariant.can _ (child-here _ _ _ c.in-Some.is c.loop-next.invariant.can _ c.node-node.ensures.value _ c.child-kids.ensures)

pub node-node-requires : goal.node-node-requires
node-node-requires g t c = adopt-live _ _ _ c.in-Some.is c.loop-next.invariant.can

pub adopt-requires : goal.adopt-requires
adopt-requires g t c κs within = (
  rw (adopt-own _ _ _ c.in-Some.is c.loop-next.invariant.can _ (child-here _ _ _ c.in-Some.is c.loop-next.invariant.can _ c.node-node.ensures.value _ c.child-kids.ensures) _ c.set_returns.ensures _ c.node-node.ensures.value _ c.own_of-own.ensures) (omega (arith, adopt-smaller _ _ _ c.in-Some.is c.loop-next.invariant.can _ (child-here _ _ _ c.in-Some.is c.loop-next.invariant.can _ c.node-node.ensures.value _ c.child-kids.ensures) _ c.set_returns.ensures, c.loop-next.invariant.within, c.decreases)),
  (within, rw (adopt-own _ _ _ c.in-Some.is c.loop-next.invariant.can _ (child-here _ _ _ c.in-Some.is c.loop-next.invariant.can _ c.node-node.ensures.value _ c.child-kids.ensures) _ c.set_returns.ensures _ c.node-node.ensures.value _ c.own_of-own.ensures) (adopt-can _ _ _ c.in-Some.is c.loop-next.invariant.can _ (child-here _ _ _ c.in-Some.is c.loop-next.invariant.can _ c.node-node.ensures.value _ c.child-kids.ensures) _ c.set_returns.ensures)),
)

pub loop-next-smaller : goal.loop-next-smaller
loop-next-smaller g t c =
    adopt-rest-smaller _ _ _ c.in-Some.is c.loop-next.invariant.can _ (child-here _ _ _ c.in-Some.is c.loop-next.invariant.can _ c.node-node.ensures.value _ c.child-kids.ensures) _ c.set_returns.ensures _ (rw (adopt-own _ _ _ c.in-Some.is c.loop-next.invariant.can _ (child-here _ _ _ c.in-Some.is c.loop-next.invariant.can _ c.node-node.ensures.value _ c.child-kids.ensures) _ c.set_returns.ensures _ c.node-node.ensures.value _ c.own_of-own.ensures) at c.adopt.ensures) _ (sibling-here _ _ _ c.in-Some.is c.loop-next.invariant.can _ c.node-node.ensures.value _ c.sibling-rest.ensures)

pub loop-next-preserved : goal.loop-next-preserved
loop-next-preserved g t c = record {
  can = adopt-rest-can _ _ _ c.in-Some.is c.loop-next.invariant.can _ (child-here _ _ _ c.in-Some.is c.loop-next.invariant.can _ c.node-node.ensures.value _ c.child-kids.ensures) _ c.set_returns.ensures _ (rw (adopt-own _ _ _ c.in-Some.is c.loop-next.invariant.can _ (child-here _ _ _ c.in-Some.is c.loop-next.invariant.can _ c.node-node.ensures.value _ c.child-kids.ensures) _ c.set_returns.ensures _ c.node-node.ensures.value _ c.own_of-own.ensures) at c.adopt.ensures) _ (sibling-here _ _ _ c.in-Some.is c.loop-next.invariant.can _ c.node-node.ensures.value _ c.sibling-rest.ensures);
  gives = λ new f. c.loop-next.invariant.gives new
      (adopt-gives _ _ _ c.in-Some.is c.loop-next.invariant.can _ (child-here _ _ _ c.in-Some.is c.loop-next.invariant.can _ c.node-node.ensures.value _ c.child-kids.ensures) _ c.set_returns.ensures _ (rw (adopt-own _ _ _ c.in-Some.is c.loop-next.invariant.can _ (child-here _ _ _ c.in-Some.is c.loop-next.invariant.can _ c.node-node.ensures.value _ c.child-kids.ensures) _ c.set_returns.ensures _ c.node-node.ensures.value _ c.own_of-own.ensures) at c.adopt.ensures) _ (sibling-here _ _ _ c.in-Some.is c.loop-next.invariant.can _ c.node-node.ensures.value _ c.sibling-rest.ensures) new f);
  within = adopt-rest-within _ _ _ c.in-Some.is c.loop-next.invariant.can _ (child-here _ _ _ c.in-Some.is c.loop-next.invariant.can _ c.node-node.ensures.value _ c.child-kids.ensures) _ c.set_returns.ensures _ (rw (adopt-own _ _ _ c.in-Some.is c.loop-next.invariant.can _ (child-here _ _ _ c.in-Some.is c.loop-next.invariant.can _ c.node-node.ensures.value _ c.child-kids.ensures) _ c.set_returns.ensures _ c.node-node.ensures.value _ c.own_of-own.ensures) at c.adopt.ensures) _ (sibling-here _ _ _ c.in-Some.is c.loop-next.invariant.can _ c.node-node.ensures.value _ c.sibling-rest.ensures) _ c.loop-next.invariant.within;
}

pub returns : goal.returns
returns g t c = c.loop-next.invariant.gives _ (adopt-end _ _ c.in_default.is)
