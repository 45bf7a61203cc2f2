use Rattle.rx_set.specs.Sets.{holds}
use Rattle.rx_settle.specs.Found.{AreTaken, seen}
use Rattle.rx_settle.proofs.working.take_known.Given as goal

-- those of the instances so far whose numbers left the set are found
abbrev pub invariant-finding : goal.invariant-finding
invariant-finding l = AreTaken (holds l.initial.numbers) (holds l.numbers) l.instances l.instance-index (seen l.found.items)
