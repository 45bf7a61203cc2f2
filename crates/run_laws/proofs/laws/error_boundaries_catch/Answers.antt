use Rattle.run_laws.proofs.Caught.{all_catch}
use Rattle.run_laws.proofs.laws.error_boundaries_catch.Goals as goal

pub returns : goal.returns
returns c = all_catch
