use Rattle.prune_laws.proofs.Placed.{parents_left}
use Rattle.prune_laws.proofs.operations.placed_hosts_are_left.Goals as goal

pub returns : goal.returns
returns c = parents_left
