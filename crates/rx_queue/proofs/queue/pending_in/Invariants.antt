use Rattle.std.proofs.Common.{◌≡◌, take}
use Rattle.rx_queue.specs.History.{pending_of}
use Rattle.rx_queue.proofs.queue.pending_in.Given as goal

abbrev pub invariant-pending : goal.invariant-pending
invariant-pending l = l.lanes ≡ pending_of (take l.entry-index l.entries)
