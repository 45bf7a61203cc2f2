use Rattle.std.proofs.Common.{◌≡◌, ◌∙◌, arith}
use Rattle.rx_given.proofs.Fronts.{all_shared}
use Rattle.rx_given.proofs.passing.shared.Goals as goal

pub returns-clause-value : goal.returns-clause-value
returns-clause-value c =
    let at : c.min-most.result ≡ c.bytes.at = omega (arith, c.bytes-test.false, c.bytes.auto.at-end) in
    at ∙ all_shared c.args.some.now c.args.others.now c.bytes.at (omega (arith, c.bytes-test.false, c.min-most.ensures)) c.bytes.invariant
