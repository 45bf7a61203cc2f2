use Rattle.std.proofs.Common.{◌++◌, sym, ap, ◌∙◌}
use Rattle.rx_elem.specs.Spots.{at_root}
use Rattle.rx_links.specs.Readers.{list_from}
use Rattle.rx_instances.specs.MountedFibers.{mounted_from}
use Rattle.rx_instances.proofs.MountedOlds.{tree_mounted}
use Rattle.rx_instances.proofs.mounted.read_mounted.Goals as goal

pub returns : goal.returns
returns c y tree =
    let current = c.args.tree.now.current in
    c.in_ok-add_in.ensures
    ∙ (λ i. c.new-found.ensures.items i ++ mounted_from (c.at_root.ensures i) (list_from current (c.current.ensures i)))
    ∙ ap (mounted_from at_root) (sym c.facts.ensures.linked.root)
    ∙ tree_mounted y current tree
