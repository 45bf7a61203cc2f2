use Rattle.machine_examples.proofs.TransitionsComputed.{owed, deferred, deferred_then_resolved, new_deadline, linked}
use Rattle.machine_examples.proofs.examples.transitions.Goals as goal

pub returns : goal.returns
returns c = record { owed = owed; deferred = deferred; deferred_then_resolved = deferred_then_resolved; new_deadline = new_deadline; linked = linked }
