use Rattle.cost_laws.proofs.Caused.{are_evaluated}
use Rattle.cost_laws.proofs.laws.places_are_evaluated.Goals as goal

pub returns : goal.returns
returns c = are_evaluated
