use Rattle.host_laws.proofs.Replay.{commit_replays}
use Rattle.host_laws.proofs.laws.commit_replays.Goals as goal

pub returns : goal.returns
returns c = commit_replays
