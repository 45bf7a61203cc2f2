use Rattle.std.proofs.Common.{subst}
use Rattle.rx_ast.specs.Syntax.{Program}
use Rattle.rx_check.specs.Runnable.{IsRunnable}
use Rattle.rx_check.proofs.Bounded.{accepted-runnable}
use Rattle.rx_check.proofs.checked.Checked.program.Goals as goal

pub returns-clause-runnable : goal.returns-clause-runnable
returns-clause-runnable c =
    let P : Program → Type 0 = λ p. IsRunnable p in subst P c.self.view_is (accepted-runnable c.self.inside.program c.self.invariant.accepted)
