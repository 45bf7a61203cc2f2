use Rattle.replay_laws.proofs.Committing.{renders_commit}
use Rattle.replay_laws.proofs.laws.each_render_is_a_commit.Goals as goal

pub returns : goal.returns
returns c = renders_commit
