use Rattle.host_laws.proofs.Siblings.{siblings_tell}
use Rattle.host_laws.proofs.laws.siblings_tell_the_placements.Goals as goal

pub returns : goal.returns
returns c parents new placed = siblings_tell placed parents new
