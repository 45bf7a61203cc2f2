use Rattle.host_laws.proofs.Replayable.{commit_made}
use Rattle.host_laws.proofs.laws.commit_can_be_made.Goals as goal

pub returns : goal.returns
returns c = commit_made
