use Rattle.std.proofs.Common.{inr, sym, subst}
use Rattle.std.proofs.lemmas.Result.{on_err_weaker}
use Rattle.rx_ast.specs.Syntax.{Program}
use Rattle.rx_model.specs.State.{opening}
use Rattle.rx_root.specs.Stands.{Stands}
use Rattle.rx_top.proofs.summary.summarize_accepted.Goals as goal

pub run_and_sum_up-requires-clause-stands : goal.run_and_sum_up-requires-clause-stands
run_and_sum_up-requires-clause-stands g c = subst (λ (p : Program). Stands p opening c.in-Ok.root) (sym c.in-Ok.ensures.program) c.in-Ok.ensures.stands

pub returns-in-Ok-clause-ok : goal.returns-in-Ok-clause-ok
returns-in-Ok-clause-ok g c = rw c.in-Ok.ensures.program at c.run_and_sum_up.ensures.ok

pub returns-in-Ok-clause-short : goal.returns-in-Ok-clause-short
returns-in-Ok-clause-short g c = on_err_weaker c.run_and_sum_up.result (λ h. inr h) (rw c.in-Ok.ensures.program at c.run_and_sum_up.ensures.short)
