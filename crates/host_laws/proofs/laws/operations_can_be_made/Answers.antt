use Rattle.host_laws.proofs.Replayable.{operations_made}
use Rattle.host_laws.proofs.laws.operations_can_be_made.Goals as goal

pub returns : goal.returns
returns c = λ old new placed r first hold no_zero. operations_made old new placed r first hold no_zero
