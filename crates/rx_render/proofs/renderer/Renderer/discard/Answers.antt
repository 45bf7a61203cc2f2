use Rattle.std.proofs.Common.{refl}
use Rattle.rx_render.specs.contracts.renderer.Renderer.{the_view}
use Rattle.rx_render.proofs.Going.{dropped_rendering}
use Rattle.rx_render.proofs.renderer.Renderer.discard.Goals as goal

pub invariant_of-self : goal.invariant_of-self
invariant_of-self c = dropped_rendering (the_view c.self.inside) _ c.self.invariant refl refl c.discard.ensures
