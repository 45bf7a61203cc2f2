use Rattle.rx_lists.proofs.Climbing.{way-live, way-rest, way-smaller, way-gives, way-end}
use Rattle.rx_lists.proofs.Frames.{change-live, if-some, some-at}
use Rattle.rx_lists.proofs.mark.mark_up.Goals as goal

pub return_of-next-requires : goal.return_of-next-requires
return_of-next-requires g c = way-live _ _ _ c.in-Some.is c.loop-next.invariant.way

pub alternate_of-alternate-requires : goal.alternate_of-alternate-requires
alternate_of-alternate-requires g c = way-live _ _ _ c.in-Some.is c.loop-next.invariant.way

pub mark_one-requires : goal.mark_one-requires
mark_one-requires g c = way-live _ _ _ c.in-Some.is c.loop-next.invariant.way

pub mark_link-requires : goal.mark_link-requires
mark_link-requires g c =
    if-some c.alternate_of-alternate.result _ (λ j e. change-live _ _ _ _ c.mark_one.ensures j (some-at _ _ j c.alternate_of-alternate.ensures.live e))

pub loop-next-smaller : goal.loop-next-smaller
loop-next-smaller g c =
    way-smaller _ _ _ c.in-Some.is c.loop-next.invariant.way _ c.return_of-next.ensures _ _ _ _ c.alternate_of-alternate.ensures.value c.alternate_of-alternate.ensures.mutual c.mark_one.ensures c.mark_link.ensures

pub loop-next-preserved : goal.loop-next-preserved
loop-next-preserved g c = record {
  way = way-rest _ _ _ c.in-Some.is c.loop-next.invariant.way _ c.return_of-next.ensures _ _ _ _ c.alternate_of-alternate.ensures.value c.alternate_of-alternate.ensures.mutual c.mark_one.ensures c.mark_link.ensures;
  gives = λ new r. c.loop-next.invariant.gives new
      (way-gives _ _ _ c.in-Some.is c.loop-next.invariant.way _ c.return_of-next.ensures _ _ _ _ c.alternate_of-alternate.ensures.value c.alternate_of-alternate.ensures.mutual c.mark_one.ensures c.mark_link.ensures new r);
}

pub returns : goal.returns
returns g c = c.loop-next.invariant.gives _ (way-end _ _ _ c.in_default.is)
