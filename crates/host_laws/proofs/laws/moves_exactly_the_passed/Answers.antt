use Rattle.host_laws.proofs.IdentityLaws.{moves_exactly}
use Rattle.host_laws.proofs.laws.moves_exactly_the_passed.Goals as goal

pub returns : goal.returns
returns c = moves_exactly
