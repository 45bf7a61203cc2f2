use Rattle.rx_base.specs.AwaitsLaws.{awaits_of-zero}
use Rattle.rx_base.proofs.awaits.Awaits.none.Goals as goal

pub returns : goal.returns
returns c = awaits_of-zero
