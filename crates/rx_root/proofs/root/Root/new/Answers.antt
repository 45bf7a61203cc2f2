use Rattle.std.proofs.Common.{◌∙◌, ap, List, length}
use Rattle.std.specs.Prelude.{replicate}
use Rattle.rx_base.specs.Values.{Name}
use Rattle.rx_resources.specs.Kept as kept_of
use Rattle.rx_model.specs.State.{opening}
use Rattle.rx_root.proofs.Broken.{for_some}
use Rattle.rx_root.proofs.Opening.{opening_stands}
use Rattle.rx_root.proofs.root.Root.new.Goals as goal

pub returns-clause-stands : goal.returns-clause-stands
returns-clause-stands c =
    let made = c.in_ok-renderer.ensures in
    opening_stands c.args.checked c.in_ok-renderer.renderer c.new-3.result c.new-4.result c.in_ok-resources.resources c.new-5.result c.none.result made.program made.current made.seen made.hooks made.idle
    c.new-3.ensures c.new-4.ensures (c.in_ok-resources.ensures ∙ ap (λ (names : List Name). replicate (length names) kept_of.opening) c.resources.ensures) c.new-5.ensures c.links_are_below.ensures.start

pub returns-clause-resources : goal.returns-clause-resources
returns-clause-resources c = (returns-clause-stands c).resources.all

pub returns-clause-some : goal.returns-clause-some
returns-clause-some c = for_some c.args.checked opening _ (returns-clause-stands c)
