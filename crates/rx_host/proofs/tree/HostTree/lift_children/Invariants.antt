use Rattle.std.proofs.Common.{◌≡◌, ◌≤◌, length}
use Rattle.rx_host.specs.Kept.{forest_kept}
use Rattle.rx_host.proofs.Removing.{IsLifting}
use Rattle.rx_host.proofs.tree.HostTree.lift_children.Given as goal

abbrev pub decreases-children : goal.decreases-children
decreases-children l = length ((forest_kept l.self).children l.child)

abbrev pub invariant-children : goal.invariant-children
invariant-children l = record {
  lifting : IsLifting (forest_kept l.fn.self) l.child l.host (forest_kept l.self);
  count : length l.self.entries ≡ length l.fn.self.entries;
  spare : l.fn.self.spare ≤ l.self.spare;
}
