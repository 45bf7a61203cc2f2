use Rattle.std.proofs.Common.{◌+◌, ◌<◌, arith}
use Rattle.rx_verify.proofs.turns.yields.Goals as goal

pub returns-in-Some-clause-yes : goal.returns-in-Some-clause-yes
returns-in-Some-clause-yes c = λ _.
    let less : c.args.used + c.in-Some.units < c.args.bound = omega (arith, c.if-saturating_add-bound.true, c.saturating_add.ensures, c.ranges.bound.fits) in
    (c.in-Some.units, c.in-Some.is, less, λ p s g h reached. c.go_on.ensures.goes_on p s g 0 h (omega arith) reached)
