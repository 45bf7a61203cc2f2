use Rattle.rx_model.specs.Turns.{AnyRender}
use Rattle.sync_laws.proofs.Ends.{lanes_law}
use Rattle.sync_laws.proofs.laws.lanes_do_not_show.Goals as goal

pub returns : goal.returns
returns c = lanes_law AnyRender AnyRender
