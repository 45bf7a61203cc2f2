use Rattle.prune_laws.proofs.Leaving.{left_alike}
use Rattle.prune_laws.proofs.Within.{are_within}
use Rattle.prune_laws.proofs.instances.pruned_alike.Goals as goal

pub returns : goal.returns
returns c = record { times = left_alike; within = are_within }
