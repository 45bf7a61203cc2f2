use Rattle.rx_render.proofs.renderer.Renderer.finished.Goals as goal

pub read_beside-requires-clause-alike : goal.read_beside-requires-clause-alike
read_beside-requires-clause-alike c = c.self.invariant.gathering.1
