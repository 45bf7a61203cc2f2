use Rattle.rx_sched.proofs.Waits.{none_kept}
use Rattle.rx_sched.proofs.waiting.Waiting.none.Goals as goal

pub returns : goal.returns
returns c = search none_kept
