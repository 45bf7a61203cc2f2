use Rattle.std.proofs.Common.{◌≡◌, []}
use Rattle.rx_figures.specs.Costs.{cost_rounds}
use Rattle.rx_figures.proofs.costs.settled.Given as goal

-- the rounds that are left make of the table what all make of none
abbrev pub invariant-loop-left : goal.invariant-loop-left
invariant-loop-left l = cost_rounds l.left l.program l.table.items ≡ cost_rounds l.most l.program []

abbrev pub decreases-loop-left : goal.decreases-loop-left
decreases-loop-left l = l.left
