use Rattle.std.proofs.Common.{◌≡◌, ◌++◌, drop}
use Rattle.rx_host_ops.specs.Beside.{beside, change_of}
use Rattle.rx_host_ops.proofs.between.add_all_changes.Given as goal

-- the operations so far, and those of the hosts from here on, are all
abbrev pub invariant-loop-place : goal.invariant-loop-place
invariant-loop-place l = l.ops.items ++ beside change_of (drop l.place l.old) (drop l.place l.new) ≡ l.fn.ops.items ++ beside change_of l.old l.new
