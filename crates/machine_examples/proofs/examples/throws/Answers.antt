use Rattle.machine_examples.proofs.ThrowsComputed.{caught, caught_anew, caught_late}
use Rattle.machine_examples.proofs.examples.throws.Goals as goal

pub returns : goal.returns
returns c = record { caught = caught; caught_anew = caught_anew; caught_late = caught_late }
