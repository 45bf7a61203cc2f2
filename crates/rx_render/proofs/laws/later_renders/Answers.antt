use Rattle.rx_render.proofs.Later.{renders_later}
use Rattle.rx_render.proofs.laws.later_renders.Goals as goal

pub returns : goal.returns
returns c = renders_later
