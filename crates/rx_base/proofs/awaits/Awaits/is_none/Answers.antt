use Rattle.std.proofs.Common.{◌∙◌, ap}
use Rattle.rx_base.specs.Awaits.{is_nothing}
use Rattle.rx_base.specs.AwaitsLaws.{is_nothing-awaits_of}
use Rattle.rx_base.proofs.awaits.Awaits.is_none.Goals as goal

pub returns : goal.returns
returns c = is_nothing-awaits_of c.self.inside.bits c.self.invariant ∙ ap is_nothing c.self.view_is
