use Rattle.std.proofs.Common.{◌∙◌}
use Rattle.rx_host.specs.Kept.{forest_kept}
use Rattle.rx_mounts.proofs.Placing.{forest_here, made_here}
use Rattle.rx_mounts.proofs.hosts.tree_of.Goals as goal

pub replay-requires : goal.replay-requires
replay-requires c =
    made_here c.args.hosts.now (forest_kept c.new-tree.result) c.deref-2.result.now c.deref.result.now c.requires c.new-tree.ensures (c.deref-2.ensures.value ∙ c.in_ok-ops.ensures)
    (c.deref.ensures.value ∙ c.in_ok-numbers.ensures)

pub returns : goal.returns
returns c =
    forest_here c.args.hosts.now (forest_kept c.new-tree.result) _ c.deref-2.result.now c.deref.result.now c.requires c.new-tree.ensures (c.deref-2.ensures.value ∙ c.in_ok-ops.ensures)
    (c.deref.ensures.value ∙ c.in_ok-numbers.ensures) c.in_ok-replay.ensures.made
