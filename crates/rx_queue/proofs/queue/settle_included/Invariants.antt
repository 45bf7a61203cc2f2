use Rattle.std.proofs.Common.{◌≡◌, ◌++◌, take, drop, map}
use Rattle.rx_queue.specs.History.{settled}
use Rattle.rx_queue.proofs.queue.settle_included.Given as goal

abbrev pub invariant-settling : goal.invariant-settling
invariant-settling l = l.entries ≡ map settled (take l.entry-index l.fn.entries) ++ drop l.entry-index l.fn.entries
