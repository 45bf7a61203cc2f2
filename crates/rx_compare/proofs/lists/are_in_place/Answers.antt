use Rattle.std.proofs.Common.{◌≡◌, ◌<◌, length, subst, take, arith}
use Rattle.std.proofs.lemmas.List.{take_all}
use Rattle.rx_elem.specs.Trees.{forest}
use Rattle.rx_compare.specs.InPlace.{AreInPlace}
use Rattle.rx_compare.proofs.InPlaceLists.{in_place-more}
use Rattle.rx_compare.proofs.lists.are_in_place.Goals as goal

pub loop-place-preserved : goal.loop-place-preserved
loop-place-preserved c =
    let even : length c.args.old.now ≡ length c.args.new.now = c.loop-place.invariant.0 in
    let within : c.loop-place.place < length c.args.old.now = omega (arith, even, c.loop-place-test.true) in (
      even,
      in_place-more c.args.old.now c.args.new.now c.loop-place.place c.index-old-place.result c.index-new-place.result
          within c.loop-place-test.true c.index-old-place.is c.index-new-place.is c.loop-place.invariant.1 (c.is_in_place.ensures c.if-not-is_in_place.false),
    )

pub returns : goal.returns
returns c e =
    let old = c.args.old.now in
    let new = c.args.new.now in
    let k = c.loop-place.place in
    subst (λ xs. AreInPlace (forest xs) (forest new)) (take_all k old (omega (arith, c.loop-place.invariant.0, c.loop-place-test.false)))
    (subst (λ ys. AreInPlace (forest (take k old)) (forest ys)) (take_all k new (omega (arith, c.loop-place-test.false))) c.loop-place.invariant.1)
