use Rattle.std.proofs.Common.{refl, ap, ◌∙◌, List}
use Rattle.rx_resources.specs.Kept.{Kept}
use Rattle.rx_resources.specs.Seen.{seen_of}
use Rattle.rx_rules.specs.Names.{resources}
use Rattle.render_tests.proofs.FirstRender.{first_starts}
use Rattle.render_tests.proofs.rendering.first_render.Goals as goal

pub start-requires : goal.start-requires
start-requires c =
    first_starts c.one-lanes.result (record { updates = 0; resolutions = 0 }) c.in_ok-seen.seen c.in_ok-renderer.renderer c.in_ok-renderer.ensures.current c.in_ok-renderer.ensures.hooks c.in_ok-renderer.ensures.seen
    (ap resources c.in_ok-renderer.ensures.program ∙ c.requires) refl
    (c.in_ok-seen.ensures ∙ ap (λ (kept : List Kept). seen_of c.one-lanes.result (record { updates = 0; resolutions = 0 }) kept) c.in_ok-store.ensures)
