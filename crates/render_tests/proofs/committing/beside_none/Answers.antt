use Rattle.rx_pruned.specs.Pruned.{first}
use Rattle.render_tests.proofs.committing.beside_none.Goals as goal

pub returns : goal.returns
returns c = first
