use Rattle.run_laws.proofs.IdleLater.{idle_later}
use Rattle.run_laws.proofs.laws.idle_trees_are_kept.Goals as goal

pub returns : goal.returns
returns c = record { longer = idle_later }
