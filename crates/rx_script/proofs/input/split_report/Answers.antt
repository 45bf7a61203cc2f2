use Rattle.std.proofs.Common.{◌∙◌, ap}
use Rattle.rx_script.specs.Input.{input_of}
use Rattle.rx_script.proofs.input.split_report.Goals as goal

pub returns-clause-script : goal.returns-clause-script
returns-clause-script c = c.split_input-2.ensures.program ∙ ap (λ l. (input_of l).program) c.split_input.ensures.script

pub returns-clause-report : goal.returns-clause-report
returns-clause-report c = c.split_input-2.ensures.script ∙ ap (λ l. (input_of l).script) c.split_input.ensures.script
