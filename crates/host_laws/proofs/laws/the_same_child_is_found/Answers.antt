use Rattle.host_laws.proofs.IdentityLaws.{position_is_the_one}
use Rattle.host_laws.proofs.laws.the_same_child_is_found.Goals as goal

pub returns : goal.returns
returns c = λ old c d p. position_is_the_one old c p d
