use Rattle.rx_base.specs.AwaitsLaws.{awaits_of-one}
use Rattle.rx_base.proofs.awaits.Awaits.one.Goals as goal

pub returns : goal.returns
returns c = awaits_of-one c.args.resource c.requires
