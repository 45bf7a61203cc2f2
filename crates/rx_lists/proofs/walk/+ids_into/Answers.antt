use Rattle.std.proofs.Common.{arith}
use Rattle.rx_lists.proofs.Walks.{walk-live, walk-kids, walk-kids-smaller, walk-rest, walk-smaller, walk-within, walk-gives, walk-end}
use Rattle.rx_lists.proofs.walk.+ids_into.Goals as goal

pub child_of-kids-requires : goal.child_of-kids-requires
child_of-kids-requires g t c = walk-live _ c.args.link _ _ c.in-Some.is c.loop-next.invariant.read c.loop-next.invariant.within

pub ids_into-requires : goal.ids_into-requires
ids_into-requires g t c κs within = (
  omega (arith, walk-kids-smaller _ c.args.link _ _ c.in-Some.is c.loop-next.invariant.read c.loop-next.invariant.within _ c.child_of-kids.ensures, c.decreases),
  (within, walk-kids _ c.args.link _ _ c.in-Some.is c.loop-next.invariant.read c.loop-next.invariant.within _ c.child_of-kids.ensures),
)

pub sibling_of-next-requires : goal.sibling_of-next-requires
sibling_of-next-requires g t c = walk-live _ c.args.link _ _ c.in-Some.is c.loop-next.invariant.read c.loop-next.invariant.within

pub loop-next-smaller : goal.loop-next-smaller
loop-next-smaller g t c =
    walk-smaller _ c.args.link _ _ c.in-Some.is c.loop-next.invariant.read c.loop-next.invariant.within _ c.child_of-kids.ensures _ c.sibling_of-next.ensures

pub loop-next-preserved : goal.loop-next-preserved
loop-next-preserved g t c = record {
  read = walk-rest _ c.args.link _ _ c.in-Some.is c.loop-next.invariant.read c.loop-next.invariant.within _ c.child_of-kids.ensures _ c.sibling_of-next.ensures;
  gives =
      rw (c.in_ok-ids_into.ensures, c.in_ok-push.ensures.items)
      (walk-gives _ c.args.link _ _ c.in-Some.is c.loop-next.invariant.read c.loop-next.invariant.within _ c.child_of-kids.ensures _ c.sibling_of-next.ensures _ _ c.loop-next.invariant.gives);
  within = walk-within _ c.args.link _ _ c.in-Some.is c.loop-next.invariant.read c.loop-next.invariant.within _ c.child_of-kids.ensures _ c.sibling_of-next.ensures;
}

pub returns : goal.returns
returns g t c = walk-end _ _ _ _ c.in_default.is c.loop-next.invariant.gives
