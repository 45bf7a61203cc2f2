use Rattle.rx_render.proofs.Later.{renders_same, renders_as, renders_resolved}
use Rattle.rx_render.proofs.laws.renders_stay.Goals as goal

pub returns-clause-same : goal.returns-clause-same
returns-clause-same c p st later g v r journal tree linked seen = renders_same p st later g v journal tree linked seen r

pub returns-clause-counted : goal.returns-clause-counted
returns-clause-counted c p st g h v r lanes cut = renders_as p st g h v lanes cut r

pub returns-clause-resolved : goal.returns-clause-resolved
returns-clause-resolved c p st g v resource x r = renders_resolved p st g v resource x r
