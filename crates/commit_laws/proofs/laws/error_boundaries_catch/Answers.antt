use Rattle.commit_laws.proofs.Catching.{tree_catches}
use Rattle.commit_laws.proofs.laws.error_boundaries_catch.Goals as goal

pub returns : goal.returns
returns c = tree_catches
