use Rattle.host_laws.proofs.IdentityLaws.{places_distinct}
use Rattle.host_laws.proofs.laws.no_child_is_reused_twice.Goals as goal

pub returns : goal.returns
returns c = places_distinct
