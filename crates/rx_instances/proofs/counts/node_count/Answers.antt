use Rattle.std.proofs.Common.{false, sym, ap, ◌∙◌}
use Rattle.rx_elem.specs.ElementSize.{held}
use Rattle.rx_lists.specs.Shapes.{Shape}
use Rattle.rx_links.specs.Readers.{list_from}
use Rattle.rx_fiber.specs.Fibers.{Fiber}
use Rattle.rx_instances.specs.CountedFibers.{counted_list}
use Rattle.rx_instances.proofs.CountedOlds.{tree_counted}
use Rattle.rx_instances.proofs.counts.node_count.Goals as goal

pub returns : goal.returns
returns c y tree =
    let current = c.args.tree.now.current in
    c.count_in.ensures
    ∙ ap (λ o. held (counted_list false (list_from current o))) c.current.ensures
    ∙ ap (λ (s : Shape Fiber). held (counted_list false s)) (sym c.facts.ensures.linked.root)
    ∙ ap held (tree_counted y current tree)
