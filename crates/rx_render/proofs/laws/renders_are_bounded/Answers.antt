use Rattle.rx_render.proofs.Ending.{renders_bounded}
use Rattle.rx_render.proofs.laws.renders_are_bounded.Goals as goal

pub returns : goal.returns
returns c = renders_bounded
