use Rattle.rx_render.proofs.Going.{given_up}
use Rattle.rx_render.proofs.renderer.RendererUnits.unit.Goals as goal

pub returns-in-Err-clause-given_up : goal.returns-in-Err-clause-given_up
returns-in-Err-clause-given_up g c = given_up c.args.self.now c.try_unit.new.self c.discard.new.self c.in-Err.ensures.stopped c.discard.ensures
