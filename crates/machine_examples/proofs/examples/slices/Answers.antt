use Rattle.machine_examples.proofs.SlicesComputed.{must_finish, yields, interrupted, not_interrupted, expired, not_expired}
use Rattle.machine_examples.proofs.examples.slices.Goals as goal

pub returns : goal.returns
returns c = record { must_finish = must_finish; yields = yields; interrupted = interrupted; not_interrupted = not_interrupted; expired = expired; not_expired = not_expired }
