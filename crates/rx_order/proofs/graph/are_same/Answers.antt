use Rattle.std.proofs.Common.{◌<◌, length, arith, add-one}
use Rattle.rx_order.proofs.Same.{take-same, all-same, beq-same}
use Rattle.rx_order.proofs.graph.are_same.Goals as goal

pub loop-at-preserved : goal.loop-at-preserved
loop-at-preserved c =
    let below : c.loop-at.at < length c.args.b.now = omega arith in
    rw add-one (take-same c.args.a.now c.args.b.now c.loop-at.at _ _ c.loop-at-test.true below c.loop-at.invariant (beq-same _ _ c.if-a-at.false))

pub returns : goal.returns
returns c = λ _. all-same c.args.a.now c.args.b.now c.loop-at.at c.loop-at-test.false (omega arith) c.loop-at.invariant
