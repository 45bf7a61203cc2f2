use Rattle.host_laws.proofs.Placements.{placements_settle}
use Rattle.host_laws.proofs.laws.placements_settle_the_children.Goals as goal

pub returns : goal.returns
returns c = placements_settle
