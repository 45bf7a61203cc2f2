use Rattle.end_laws.proofs.Numbered.{numbered_same}
use Rattle.end_laws.proofs.laws.ends_are_not_numbered.Goals as goal

pub returns : goal.returns
returns c = numbered_same
