use Rattle.std.proofs.Common.{◌≡◌, ◌++◌, take, drop, map}
use Rattle.rx_queue.specs.History.{noted}
use Rattle.rx_queue.proofs.queue.note_included.Given as goal

abbrev pub invariant-noting : goal.invariant-noting
invariant-noting l = l.entries ≡ map (noted l.lanes l.cut) (take l.entry-index l.fn.entries) ++ drop l.entry-index l.fn.entries
