use Rattle.choice_laws.proofs.Taken.{one_unit_fits}
use Rattle.choice_laws.proofs.laws.some_counts_fit.Goals as goal

pub returns : goal.returns
returns c = one_unit_fits
