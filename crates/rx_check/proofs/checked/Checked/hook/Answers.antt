use Rattle.std.proofs.Common.{arith}
use Rattle.rx_check.proofs.Limited.{few-statements}
use Rattle.rx_check.proofs.checked.Checked.hook.Goals as goal

pub hook_among-requires : goal.hook_among-requires
hook_among-requires c =
    rw c.statements.ensures (omega (arith, few-statements _ c.in_ok-component.ensures.accepted _ _ c.in_ok-component.ensures.found))
