use Rattle.std.proofs.Common.{◌≡◌, drop}
use Rattle.rx_forest.specs.HostOps.{attr_named}
use Rattle.rx_host_ops.specs.Attrs.{seen}
use Rattle.rx_host_ops.proofs.attrs.named.Given as goal

-- none so far has the name
abbrev pub invariant-loop-place : goal.invariant-loop-place
invariant-loop-place l = attr_named (seen l.attrs) l.name ≡ attr_named (seen (drop l.place l.attrs)) l.name
