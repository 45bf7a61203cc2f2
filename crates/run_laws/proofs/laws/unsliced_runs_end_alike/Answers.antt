use Rattle.rx_model.specs.Turns.{AnyRender}
use Rattle.run_laws.proofs.UnslicedEnds.{unsliced_ends}
use Rattle.run_laws.proofs.laws.unsliced_runs_end_alike.Goals as goal

pub returns : goal.returns
returns c = unsliced_ends AnyRender AnyRender
