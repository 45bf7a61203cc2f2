use Rattle.rx_host_ops.specs.Tables.{entry_in}
use Rattle.rx_host_ops.proofs.Behind.{KnowsBehind}
use Rattle.rx_host_ops.proofs.placing.placements.Given as goal

-- what is known from here on
abbrev pub invariant-loop-place : goal.invariant-loop-place
invariant-loop-place l = KnowsBehind l.fn.placed l.hosts l.place l.ops.items (entry_in l.standing)
