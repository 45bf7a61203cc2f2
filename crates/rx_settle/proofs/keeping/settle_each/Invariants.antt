use Rattle.std.proofs.Common.{◌≡◌}
use Rattle.rx_hook_store.specs.Store.{kept_hooks}
use Rattle.rx_settle.specs.Found.{seen}
use Rattle.rx_settle.proofs.Kept.{SettledSoFar}
use Rattle.rx_settle.proofs.keeping.settle_each.Given as goal

abbrev pub invariant-settling : goal.invariant-settling
invariant-settling l = record {
  so_far : SettledSoFar l.lanes l.cut l.first (kept_hooks l.initial.store) (kept_hooks l.store) (seen l.instances) l.instance-index;
  spare : l.store.spare ≡ l.initial.store.spare;
}
