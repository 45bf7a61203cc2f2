use Rattle.std.proofs.Common.{◌≡◌, take}
use Rattle.rx_host.proofs.replaying.copy_all.Given as goal

abbrev pub invariant-ops : goal.invariant-ops
invariant-ops l = l.copies.items ≡ take l.op-index l.ops
