use Rattle.std.proofs.Common.{◌≤◌, length}
use Rattle.std.specs.Vec.Iter.{into_iter_items}
use Rattle.rx_forest.specs.Forests.{HostForest, CanBeReplayed, Replays}
use Rattle.rx_host.specs.Kept.{forest_kept}
use Rattle.rx_host.proofs.replaying.apply_all.Given as goal

abbrev pub invariant-ops : goal.invariant-ops
invariant-ops l = record {
  next : (goal.iterator-ops).can_next l.op-iterator;
  finite : (goal.iterator-ops).is_finite l.op-iterator;
  room : length (into_iter_items l.op-iterator) ≤ l.tree.spare;
  can_be_made : CanBeReplayed (forest_kept l.tree) (into_iter_items l.op-iterator);
  made : (g : HostForest) → Replays (forest_kept l.tree) (into_iter_items l.op-iterator) g → Replays (forest_kept l.fn.tree) l.fn.ops.items g;
}
