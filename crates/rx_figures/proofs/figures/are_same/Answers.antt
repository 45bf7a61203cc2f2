use Rattle.std.proofs.Common.{◌<◌, length, arith, add-one, refl}
use Rattle.rx_order.proofs.Same.{take-same, all-same}
use Rattle.rx_figures.proofs.figures.are_same.Goals as goal

pub loop-at-preserved : goal.loop-at-preserved
loop-at-preserved c =
    let below : c.loop-at.at < length c.args.b.now = omega arith in
    rw add-one (take-same c.args.a.now c.args.b.now c.loop-at.at _ _ c.loop-at-test.true below c.loop-at.invariant (c.if-not-is_same.ensures refl))

pub returns : goal.returns
returns c = λ _. all-same c.args.a.now c.args.b.now c.loop-at.at c.loop-at-test.false (omega arith) c.loop-at.invariant
