use Rattle.run_laws.proofs.Premises.{boundaries, bounded, exactly}
use Rattle.run_laws.proofs.laws.premises_are_met.Goals as goal

pub returns : goal.returns
returns c = (boundaries, bounded, exactly)
