use Rattle.replay_laws.proofs.Reached.{made_law}
use Rattle.replay_laws.proofs.laws.operations_are_made.Goals as goal

pub returns : goal.returns
returns c = made_law
