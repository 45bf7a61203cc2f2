use Rattle.rx_kept.proofs.Paths.{each_can, steps_can}
use Rattle.rx_root.proofs.laws.steps_can_be_taken.Goals as goal

pub returns-clause-script : goal.returns-clause-script
returns-clause-script c = steps_can

pub returns-clause-each : goal.returns-clause-each
returns-clause-each c = each_can
