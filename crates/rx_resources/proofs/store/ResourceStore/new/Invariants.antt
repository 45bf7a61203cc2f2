use Rattle.std.proofs.Common.{◌≡◌}
use Rattle.std.specs.Prelude.{replicate}
use Rattle.rx_resources.specs.Kept.{opening}
use Rattle.rx_resources.proofs.store.ResourceStore.new.Given as goal

abbrev pub invariant-resources : goal.invariant-resources
invariant-resources l = l.resources.items ≡ replicate l._resource opening
