use Rattle.std.proofs.Common.{drop}
use Rattle.host_laws.specs.Siblings.{HasPlacedParents}
use Rattle.rx_set.specs.Sets.{holds}
use Rattle.rx_host_ops.proofs.placing.placed_parents.Given as goal

-- the parents of those from here on
abbrev pub invariant-loop-place : goal.invariant-loop-place
invariant-loop-place l = HasPlacedParents l.fn.placed (holds l.parents) (drop l.place l.hosts)
