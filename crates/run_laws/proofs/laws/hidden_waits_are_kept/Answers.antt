use Rattle.run_laws.proofs.WaitingAgain.{longer_waits_again, progress_waits_again, starting_waits_again}
use Rattle.run_laws.proofs.laws.hidden_waits_are_kept.Goals as goal

pub returns : goal.returns
returns c = record { starts = starting_waits_again; in_progress = progress_waits_again; longer = longer_waits_again }
