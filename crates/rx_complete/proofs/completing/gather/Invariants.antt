use Rattle.rx_complete.proofs.Gathering.{ComesAlong, size_from}
use Rattle.rx_complete.proofs.completing.gather.Given as goal

-- the fibers before the next one are taken
abbrev pub invariant-gathering : goal.invariant-gathering
invariant-gathering l = ComesAlong l.tree l.fn.at l.below l.next

abbrev pub decreases-gathering : goal.decreases-gathering
decreases-gathering l = size_from l.tree.draft l.next
