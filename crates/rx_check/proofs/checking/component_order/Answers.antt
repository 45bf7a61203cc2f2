use Rattle.std.proofs.Common.{sym}
use Rattle.rx_check.proofs.checking.component_order.Goals as goal

pub returns : goal.returns
returns c = rw (sym c.requires) c.finishing_order.ensures
