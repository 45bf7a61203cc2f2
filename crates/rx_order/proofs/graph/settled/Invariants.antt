use Rattle.std.proofs.Common.{◌≡◌, [], length}
use Rattle.rx_order.specs.Graphs.{lead_rounds}
use Rattle.rx_order.proofs.graph.settled.Given as goal

-- the rounds that are left make of the table what all make of none
abbrev pub invariant-loop-left : goal.invariant-loop-left
invariant-loop-left l = lead_rounds l.graph l.target l.left l.table.items ≡ lead_rounds l.graph l.target (length l.graph) []

abbrev pub decreases-loop-left : goal.decreases-loop-left
decreases-loop-left l = l.left
