use Rattle.std.proofs.Common.{◌≡◌, drop}
use Rattle.rx_forest.specs.Hosts.{by_name}
use Rattle.rx_host_ops.specs.Attrs.{seen}
use Rattle.rx_host_ops.proofs.attrs.sorted.Given as goal

-- those from here on are in order
abbrev pub invariant-loop-place : goal.invariant-loop-place
invariant-loop-place l = seen l.sorted.items ≡ by_name (drop l.place l.attrs)
