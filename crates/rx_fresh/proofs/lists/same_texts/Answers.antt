use Rattle.std.proofs.Common.{◌≡◌, [], arith, subst, suc, ◌+◌, drop}
use Rattle.std.proofs.lemmas.List.{drop_all}
use Rattle.rx_elem.specs.Trees.{forest}
use Rattle.rx_fresh.specs.Texts.{AreSameTexts}
use Rattle.rx_fresh.proofs.SameTexts.{one_more}
use Rattle.rx_fresh.proofs.lists.same_texts.Goals as goal

pub loop-place-preserved : goal.loop-place-preserved
loop-place-preserved c =
    let k = c.loop-place.place in
    let old = c.args.old.now in
    let new = c.args.elements.now in
    let next : k + 1 ≡ suc k = omega arith in (
      c.loop-place.invariant.0,
      λ rest.
          c.loop-place.invariant.1
          (one_more k old new c.index-old-place.result c.index-elements-place.result (omega (arith, c.loop-place.invariant.0, c.loop-place-test.true)) c.loop-place-test.true c.index-old-place.is c.index-elements-place.is (c.is_text_at.ensures c.if-not-is_text_at.false)
          (subst (λ j. AreSameTexts (forest (drop j old)) (drop j new)) next rest)),
    )

pub returns : goal.returns
returns c = λ _.
    let k = c.loop-place.place in
    let old = c.args.old.now in
    let new = c.args.elements.now in
    let none-old : drop k old ≡ [] = drop_all k old (omega (arith, c.loop-place-test.false, c.loop-place.invariant.0)) in
    let none-new : drop k new ≡ [] = drop_all k new (omega (arith, c.loop-place-test.false)) in
    c.loop-place.invariant.1 (rw (none-old, none-new) tt)
