use Rattle.std.proofs.Common.{◌≡◌, ◌≤◌, length}
use Rattle.rx_host.specs.Kept.{forest_kept}
use Rattle.rx_host.proofs.Removing.{IsRemoving, Nowhere, cut_off}
use Rattle.rx_host.proofs.tree.HostTree.remove.Given as goal

abbrev pub decreases-children : goal.decreases-children
decreases-children l = length l.self.entries

abbrev pub invariant-children : goal.invariant-children
invariant-children l = record {
  removing : IsRemoving (cut_off (forest_kept l.fn.self) l.host) l.host (forest_kept l.self);
  nowhere : Nowhere (forest_kept l.self) l.host;
  held : (forest_kept l.self).held l.host ≡ (forest_kept l.fn.self).held l.host;
  spare : l.fn.self.spare ≤ l.self.spare;
}
