use Rattle.std.proofs.Common.{arith}
use Rattle.rx_check.proofs.Limited.{few-parameters}
use Rattle.rx_check.proofs.checked.Checked.parameters_of.Goals as goal

pub overflow_cast-result : goal.overflow_cast-result
overflow_cast-result c =
    rw c.parameters.ensures (omega (arith, few-parameters _ c.in-Some.ensures.accepted _ _ c.in-Some.ensures.found))
