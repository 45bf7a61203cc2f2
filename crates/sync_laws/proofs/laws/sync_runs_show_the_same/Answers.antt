use Rattle.rx_model.specs.Turns.{AnyRender}
use Rattle.sync_laws.proofs.Closing.{reports_close_alike}
use Rattle.sync_laws.proofs.Ends.{sync_law}
use Rattle.sync_laws.proofs.laws.sync_runs_show_the_same.Goals as goal

pub returns : goal.returns
returns c = record { ends = sync_law AnyRender AnyRender; reports = reports_close_alike AnyRender AnyRender }
