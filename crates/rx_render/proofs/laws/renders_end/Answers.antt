use Rattle.rx_render.proofs.Ending.{renders_end}
use Rattle.rx_render.proofs.laws.renders_end.Goals as goal

pub returns : goal.returns
returns c = renders_end
