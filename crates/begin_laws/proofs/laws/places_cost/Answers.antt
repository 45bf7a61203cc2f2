use Rattle.begin_laws.proofs.Costing.{counts, may, opens_so}
use Rattle.begin_laws.proofs.laws.places_cost.Goals as goal

pub returns : goal.returns
returns c = record { bodies = counts; tries = may; opens = opens_so }
