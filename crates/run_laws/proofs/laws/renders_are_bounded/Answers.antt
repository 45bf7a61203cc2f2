use Rattle.run_laws.proofs.RenderBounds.{units_below, render_within}
use Rattle.run_laws.proofs.laws.renders_are_bounded.Goals as goal

pub returns : goal.returns
returns c = record { units = λ s bounded old. units_below s bounded.apart bounded.small old; bound = render_within }
