use Rattle.rx_lists.proofs.Adopting.{relink-live, relink-read, relink-once, relink-smaller, relink-gives, relink-end}
use Rattle.rx_lists.proofs.returns.set_returns.Goals as goal

pub sibling_of-next-requires : goal.sibling_of-next-requires
sibling_of-next-requires g c = relink-live _ _ _ c.in-Some.is c.loop-next.invariant.read c.loop-next.invariant.once

pub link_return-requires : goal.link_return-requires
link_return-requires g c = relink-live _ _ _ c.in-Some.is c.loop-next.invariant.read c.loop-next.invariant.once

pub loop-next-smaller : goal.loop-next-smaller
loop-next-smaller g c =
    relink-smaller _ _ _ c.in-Some.is c.loop-next.invariant.read c.loop-next.invariant.once _ _ c.link_return.ensures _ c.sibling_of-next.ensures

pub loop-next-preserved : goal.loop-next-preserved
loop-next-preserved g c = record {
  read = relink-read _ _ _ c.in-Some.is c.loop-next.invariant.read c.loop-next.invariant.once _ _ c.link_return.ensures _ c.sibling_of-next.ensures;
  once = relink-once _ _ _ c.in-Some.is c.loop-next.invariant.read c.loop-next.invariant.once _ _ c.link_return.ensures _ c.sibling_of-next.ensures;
  gives = λ new f. c.loop-next.invariant.gives new
      (relink-gives _ _ _ c.in-Some.is c.loop-next.invariant.read c.loop-next.invariant.once _ _ c.link_return.ensures _ c.sibling_of-next.ensures new f);
}

pub returns : goal.returns
returns g c = c.loop-next.invariant.gives _ (relink-end _ _ _ c.in_default.is)
