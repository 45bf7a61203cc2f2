use Rattle.std.proofs.Common.{◌<◌, length, sym, ◌∙◌, arith}
use Rattle.rx_elem.specs.Elements.{same_attr}
use Rattle.rx_elem.proofs.Pairs.{and-true, and-false, pointwise-unequal, pointwise-more, pointwise-end}
use Rattle.rx_elem.proofs.attr.same_attrs.Goals as goal

pub returns-then-ours-theirs : goal.returns-then-ours-theirs
returns-then-ours-theirs c = pointwise-unequal same_attr c.args.ours.now c.args.theirs.now c.if-ours-theirs.true

pub returns-then-not-same : goal.returns-then-not-same
returns-then-not-same c =
    let within : c.loop-place.place < length c.args.theirs.now = omega arith in
    sym (and-false _ _ _ (sym c.same.ensures ∙ c.if-not-same.true)
    (c.loop-place.invariant.1 ∙ pointwise-more same_attr _ _ c.loop-place.place _ _ c.loop-place-test.true within c.index-ours-place.is c.index-theirs-place.is))

pub loop-place-preserved : goal.loop-place-preserved
loop-place-preserved c =
    let within : c.loop-place.place < length c.args.theirs.now = omega arith in (
      c.loop-place.invariant.0,
      and-true _ _ _ (sym c.same.ensures ∙ c.if-not-same.false)
          (c.loop-place.invariant.1 ∙ pointwise-more same_attr _ _ c.loop-place.place _ _ c.loop-place-test.true within c.index-ours-place.is c.index-theirs-place.is),
    )

pub returns : goal.returns
returns c = sym (c.loop-place.invariant.1 ∙ pointwise-end same_attr _ _ c.loop-place.place c.loop-place-test.false c.loop-place.invariant.0)
