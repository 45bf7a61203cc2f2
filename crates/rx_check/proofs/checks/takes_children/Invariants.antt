use Rattle.std.proofs.Common.{◌≡◌, drop}
use Rattle.std.specs.Prelude.{find}
use Rattle.rx_check.specs.Checks.{is_children}
use Rattle.rx_check.proofs.checks.takes_children.Given as goal

-- what is wanted is among those that are left
abbrev pub invariant-loop-parameter : goal.invariant-loop-parameter
invariant-loop-parameter l = find is_children (drop l.parameter-index l.parameter-items) ≡ find is_children l.component.parameters
