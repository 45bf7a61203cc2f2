use Rattle.std.proofs.Common.{◌≡◌, map, take}
use Rattle.std.specs.List.{list_any}
use Rattle.rx_resources.specs.Kept.{value_of, version_at}
use Rattle.rx_resources.specs.Seen.{sees_another}
use Rattle.rx_resources.proofs.store.ResourceStore.seen.Given as goal

abbrev pub invariant-seeing : goal.invariant-seeing
invariant-seeing l = record {
  versions : l.seen-inside.versions.items ≡ map (version_at l.lanes l.cut) (take l.resource-index l.resource-items);
  values : l.seen-inside.values.items ≡ map (λ k. value_of k (version_at l.lanes l.cut k)) (take l.resource-index l.resource-items);
  refreshes : l.seen-inside.refreshes ≡ list_any (sees_another l.lanes l.cut) (take l.resource-index l.resource-items);
}
