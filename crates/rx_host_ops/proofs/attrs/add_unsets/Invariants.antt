use Rattle.std.proofs.Common.{◌≡◌, ◌++◌, drop}
use Rattle.std.specs.List.{flat_map}
use Rattle.rx_host_ops.specs.Attrs.{seen, unsets}
use Rattle.rx_host_ops.proofs.attrs.add_unsets.Given as goal

-- the operations so far, and those of the attributes from here on, are all
abbrev pub invariant-loop-place : goal.invariant-loop-place
invariant-loop-place l =
    l.ops.items ++ flat_map (unsets l.host (seen l.new)) (seen (drop l.place l.old)) ≡ l.initial.ops.items ++ flat_map (unsets l.host (seen l.new)) (seen l.old)
