use Rattle.std.proofs.Common.{◌∙◌, ap, sym}
use Rattle.rx_script.specs.Input.{Input}
use Rattle.rx_top.specs.Outcome.{parts_of, report_in}
use Rattle.rx_top.proofs.Due.{no-report}
use Rattle.rx_top.proofs.answer.split.Goals as goal

pub returns-in-Run-clause-program : goal.returns-in-Run-clause-program
returns-in-Run-clause-program c = c.split_input.ensures.program ∙ ap (λ (i : Input). i.program) (sym (no-report c.args.reading c.in-Run.is c.args.input.now).0)

pub returns-in-Run-clause-script : goal.returns-in-Run-clause-script
returns-in-Run-clause-script c = c.split_input.ensures.script ∙ ap (λ (i : Input). i.script) (sym (no-report c.args.reading c.in-Run.is c.args.input.now).0)

pub returns-in-Run-clause-report : goal.returns-in-Run-clause-report
returns-in-Run-clause-report c = sym (no-report c.args.reading c.in-Run.is c.args.input.now).1

pub returns-in-Verify-clause-program : goal.returns-in-Verify-clause-program
returns-in-Verify-clause-program c = c.split_report.ensures.program ∙ ap (λ t. (parts_of t c.args.input.now).program) (sym c.in-Verify.is)

pub returns-in-Verify-clause-script : goal.returns-in-Verify-clause-script
returns-in-Verify-clause-script c = c.split_report.ensures.script ∙ ap (λ t. (parts_of t c.args.input.now).script) (sym c.in-Verify.is)

pub returns-in-Verify-clause-report : goal.returns-in-Verify-clause-report
returns-in-Verify-clause-report c = c.split_report.ensures.report ∙ ap (λ t. report_in t c.args.input.now) (sym c.in-Verify.is)
