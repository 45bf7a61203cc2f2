use Rattle.std.proofs.Common.{arith}
use Rattle.rx_lists.proofs.Frames.{change-live, if-some, some-at}
use Rattle.rx_lists.proofs.Marking.{mark-live, mark-kids-can, mark-kids-smaller, mark-rest-can, mark-rest-smaller, mark-rest-within, mark-gives, mark-end}
use Rattle.rx_lists.proofs.mark.+mark_list.Goals as goal

pub sibling_of-rest-requires : goal.sibling_of-rest-requires
sibling_of-rest-requires g t c = mark-live _ _ _ c.in-Some.is c.loop-next.invariant.can

pub child_of-kids-requires : goal.child_of-kids-requires
child_of-kids-requires g t c = mark-live _ _ _ c.in-Some.is c.loop-next.invariant.can

pub alternate_of-other-requires : goal.alternate_of-other-requires
alternate_of-other-requires g t c = mark-live _ _ _ c.in-Some.is c.loop-next.invariant.can

pub mark_one-requires : goal.mark_one-requires
mark_one-requires g t c = mark-live _ _ _ c.in-Some.is c.loop-next.invariant.can

pub mark_link-requires : goal.mark_link-requires
mark_link-requires g t c =
    if-some c.alternate_of-other.result _ (λ j e. change-live _ _ _ _ c.mark_one.ensures j (some-at _ _ j c.alternate_of-other.ensures.live e))

pub mark_list-requires : goal.mark_list-requires
mark_list-requires g t c κs within = (
  omega (arith, mark-kids-smaller _ _ _ c.in-Some.is c.loop-next.invariant.can _ _ c.alternate_of-other.ensures.value c.alternate_of-other.ensures.mutual _ _ c.mark_one.ensures c.mark_link.ensures _ c.child_of-kids.ensures, c.loop-next.invariant.within, c.decreases),
  (within.0, (within.1, mark-kids-can _ _ _ c.in-Some.is c.loop-next.invariant.can _ _ c.alternate_of-other.ensures.value c.alternate_of-other.ensures.mutual _ _ c.mark_one.ensures c.mark_link.ensures _ c.child_of-kids.ensures)),
)

pub loop-next-smaller : goal.loop-next-smaller
loop-next-smaller g t c =
    mark-rest-smaller _ _ _ c.in-Some.is c.loop-next.invariant.can _ _ c.alternate_of-other.ensures.value c.alternate_of-other.ensures.mutual _ _ c.mark_one.ensures c.mark_link.ensures _ c.child_of-kids.ensures _ c.mark_list.ensures _ c.sibling_of-rest.ensures

pub loop-next-preserved : goal.loop-next-preserved
loop-next-preserved g t c = record {
  can = mark-rest-can _ _ _ c.in-Some.is c.loop-next.invariant.can _ _ c.alternate_of-other.ensures.value c.alternate_of-other.ensures.mutual _ _ c.mark_one.ensures c.mark_link.ensures _ c.child_of-kids.ensures _ c.mark_list.ensures _ c.sibling_of-rest.ensures;
  gives = λ new r. c.loop-next.invariant.gives new
      (mark-gives _ _ _ c.in-Some.is c.loop-next.invariant.can _ _ c.alternate_of-other.ensures.value c.alternate_of-other.ensures.mutual _ _ c.mark_one.ensures c.mark_link.ensures _ c.child_of-kids.ensures _ c.mark_list.ensures _ c.sibling_of-rest.ensures new r);
  within = mark-rest-within _ _ _ c.in-Some.is c.loop-next.invariant.can _ _ c.alternate_of-other.ensures.value c.alternate_of-other.ensures.mutual _ _ c.mark_one.ensures c.mark_link.ensures _ c.child_of-kids.ensures _ c.mark_list.ensures _ c.sibling_of-rest.ensures _ c.loop-next.invariant.within;
}

pub returns : goal.returns
returns g t c = c.loop-next.invariant.gives _ (mark-end _ _ _ c.in_default.is)
