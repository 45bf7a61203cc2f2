use Rattle.host_laws.proofs.IdentityLaws.{identities_distinct}
use Rattle.host_laws.proofs.laws.identities_are_distinct.Goals as goal

pub returns : goal.returns
returns c = identities_distinct
