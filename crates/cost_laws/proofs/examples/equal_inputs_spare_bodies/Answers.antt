use Rattle.cost_laws.proofs.InputsComputed.{inputs_spare}
use Rattle.cost_laws.proofs.examples.equal_inputs_spare_bodies.Goals as goal

pub returns : goal.returns
returns c = inputs_spare
