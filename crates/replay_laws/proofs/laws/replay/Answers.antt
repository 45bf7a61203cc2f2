use Rattle.replay_laws.proofs.Reached.{replay_law}
use Rattle.replay_laws.proofs.laws.replay.Goals as goal

pub returns : goal.returns
returns c = replay_law
