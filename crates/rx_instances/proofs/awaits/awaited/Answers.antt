use Rattle.std.proofs.Common.{◌≡◌, sym, ap, ◌∙◌}
use Rattle.rx_base.specs.Awaits.{awaits_where}
use Rattle.rx_lists.specs.Shapes.{Shape}
use Rattle.rx_links.specs.Readers.{list_from}
use Rattle.rx_fiber.specs.Fibers.{Fiber}
use Rattle.rx_spots.proofs.Waiting.{resolved_since-set}
use Rattle.rx_instances.specs.AwaitedFibers.{waits_list}
use Rattle.rx_instances.proofs.AwaitedOlds.{tree_waits}
use Rattle.rx_instances.proofs.awaits.awaited.Goals as goal

pub returns-clause-are : goal.returns-clause-are
returns-clause-are c y tree =
    let current = c.args.tree.now.current in
    c.awaits_in.ensures
    ∙ ap (λ o. awaits_where (waits_list (list_from current o))) c.current.ensures
    ∙ ap (λ (s : Shape Fiber). awaits_where (waits_list s)) (sym c.facts.ensures.linked.root)
    ∙ tree_waits y current tree

pub returns-clause-resolved : goal.returns-clause-resolved
returns-clause-resolved c y version cut j tree reach =
    let current = c.args.tree.now.current in
    resolved_since-set y _
    (c.awaits_in.ensures
    ∙ ap (λ o. awaits_where (waits_list (list_from current o))) c.current.ensures
    ∙ ap (λ (s : Shape Fiber). awaits_where (waits_list s)) (sym c.facts.ensures.linked.root)
    ∙ tree_waits y current tree)
    version cut j reach
