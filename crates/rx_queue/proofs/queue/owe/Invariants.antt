use Rattle.std.proofs.Common.{◌≡◌, ◌++◌, take, drop, map}
use Rattle.rx_queue.specs.History.{owed_after}
use Rattle.rx_queue.proofs.queue.owe.Given as goal

abbrev pub invariant-owing : goal.invariant-owing
invariant-owing l = l.entries ≡ map (owed_after l.lanes l.cut) (take l.entry-index l.fn.entries) ++ drop l.entry-index l.fn.entries
