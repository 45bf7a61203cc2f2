use Rattle.host_laws.proofs.IdentityLaws.{unmoved_rise}
use Rattle.host_laws.proofs.laws.the_unmoved_rise.Goals as goal

pub returns : goal.returns
returns c = λ places i j p q apart. unmoved_rise places apart i j p q
