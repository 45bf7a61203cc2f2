use Rattle.std.proofs.Common.{◌<◌, sym, ap, ◌∙◌, subst}
use Rattle.rx_render.specs.LastUnit.{is_over}
use Rattle.rx_render.specs.Rendering.{left_of}
use Rattle.rx_render.specs.contracts.renderer.Renderer.{the_view}
use Rattle.rx_render.proofs.Going.{over_at, some_left}
use Rattle.rx_render.proofs.renderer.Renderer.is_over.Goals as goal

pub returns-clause-over : goal.returns-clause-over
returns-clause-over c e = over_at c.args.self.now.at (ap (λ v. is_over v.at) (sym c.self.view_is) ∙ (sym c.is_over.ensures ∙ e))

pub returns-clause-left : goal.returns-clause-left
returns-clause-left c e = subst (λ v. 0 < left_of v) c.self.view_is (some_left (the_view c.self.inside) c.self.invariant (sym c.is_over.ensures ∙ e))
