use Rattle.std.specs.Prelude.{◌≡◌, ◌+◌}
use Rattle.std.proofs.Common.{arith, subst}
use Rattle.rx_lists.specs.Shapes.{size}
use Rattle.rx_links.specs.Drafts.{made_size}
use Rattle.rx_model.specs.Laws.{IsBounded}
use Rattle.rx_render.specs.Rendering.{Rendering}
use Rattle.rx_render.proofs.Live.{renders_few, way_few, idle_few}
use Rattle.rx_render.proofs.renderer.Renderer.live.Goals as goal

pub returns-clause-few : goal.returns-clause-few
returns-clause-few c st g r is =
    let counted = subst (λ (v : Rendering). c.live.result ≡ size v.trees.current + made_size v.trees.draft) c.self.view_is c.live.ensures in
    let bounded = subst (λ (v : Rendering). IsBounded v.program) c.self.view_is c.self.invariant.bounded in
    omega (arith, counted, renders_few c.fibers_have_room.ensures.both c.args.self.now bounded st g r is)

pub returns-clause-under_way : goal.returns-clause-under_way
returns-clause-under_way c way is =
    let counted = subst (λ (v : Rendering). c.live.result ≡ size v.trees.current + made_size v.trees.draft) c.self.view_is c.live.ensures in
    let bounded = subst (λ (v : Rendering). IsBounded v.program) c.self.view_is c.self.invariant.bounded in
    omega (arith, counted, way_few c.fibers_have_room.ensures.both c.args.self.now bounded way is)

pub returns-clause-idle : goal.returns-clause-idle
returns-clause-idle c tree empty current is =
    let counted = subst (λ (v : Rendering). c.live.result ≡ size v.trees.current + made_size v.trees.draft) c.self.view_is c.live.ensures in
    let bounded = subst (λ (v : Rendering). IsBounded v.program) c.self.view_is c.self.invariant.bounded in
    omega (arith, counted, idle_few c.fibers_have_room.ensures.current c.nodes_are_bounded.ensures.committed c.args.self.now bounded tree empty current is)
