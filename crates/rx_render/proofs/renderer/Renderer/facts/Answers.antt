use Rattle.std.specs.Prelude.{◌<◌, ◌≤◌, ◌^◌}
use Rattle.std.proofs.Common.{subst}
use Rattle.rx_model.specs.Turns.{unit_bound}
use Rattle.rx_render.specs.Rendering.{left_of}
use Rattle.rx_render.specs.contracts.renderer.Renderer.{the_view}
use Rattle.rx_render.proofs.Going.{few_left, left_within}
use Rattle.rx_render.proofs.renderer.Renderer.facts.Goals as goal

pub returns-clause-few : goal.returns-clause-few
returns-clause-few c = subst (λ v. left_of v < 2 ^ 64) c.self.view_is (few_left (the_view c.self.inside) c.self.invariant)

pub returns-clause-within : goal.returns-clause-within
returns-clause-within c = subst (λ v. left_of v ≤ unit_bound v.program) c.self.view_is (left_within (the_view c.self.inside))
