use Rattle.std.proofs.Common.{◌≡◌, ◌++◌, drop}
use Rattle.std.specs.List.{flat_map}
use Rattle.rx_host_ops.specs.Attrs.{seen, sets}
use Rattle.rx_host_ops.proofs.attrs.add_sets.Given as goal

-- the operations so far, and those of the attributes from here on, are all
abbrev pub invariant-loop-place : goal.invariant-loop-place
invariant-loop-place l =
    l.ops.items ++ flat_map (sets l.host (seen l.old)) (seen (drop l.place l.new)) ≡ l.initial.ops.items ++ flat_map (sets l.host (seen l.old)) (seen l.new)
