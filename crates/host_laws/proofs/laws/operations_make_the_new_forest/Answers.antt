use Rattle.host_laws.proofs.Between.{between_replays}
use Rattle.host_laws.proofs.laws.operations_make_the_new_forest.Goals as goal

pub returns : goal.returns
returns c = between_replays
