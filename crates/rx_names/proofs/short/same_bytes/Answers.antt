use Rattle.std.proofs.Common.{◌<◌, length, sym, ◌∙◌, arith}
use Rattle.rx_names.proofs.Bytes.{and-false, and-true, other_byte, same_byte, unequal, one_more, at_end}
use Rattle.rx_names.proofs.short.same_bytes.Goals as goal

pub returns-then-one-other : goal.returns-then-one-other
returns-then-one-other c = unequal c.args.one.now c.args.other.now c.if-one-other.true

pub returns-then-one-place : goal.returns-then-one-place
returns-then-one-place c =
    let within : c.loop-place.place < length c.args.other.now = omega arith in
    sym (and-false _ _ _ (other_byte _ _ c.if-one-place.true) (c.loop-place.invariant.1 ∙ one_more _ _ c.loop-place.place c.loop-place-test.true within))

pub loop-place-preserved : goal.loop-place-preserved
loop-place-preserved c =
    let within : c.loop-place.place < length c.args.other.now = omega arith in (
      c.loop-place.invariant.0,
      and-true _ _ _ (same_byte _ _ c.if-one-place.false) (c.loop-place.invariant.1 ∙ one_more _ _ c.loop-place.place c.loop-place-test.true within),
    )

pub returns : goal.returns
returns c = sym (c.loop-place.invariant.1 ∙ at_end _ _ c.loop-place.place c.loop-place-test.false c.loop-place.invariant.0)
