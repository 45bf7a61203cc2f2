use Rattle.host_laws.proofs.Removals.{removals_replay}
use Rattle.host_laws.proofs.laws.removals_leave_the_rest.Goals as goal

pub returns : goal.returns
returns c = removals_replay
