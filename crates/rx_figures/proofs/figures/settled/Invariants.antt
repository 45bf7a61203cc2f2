use Rattle.std.proofs.Common.{◌≡◌, []}
use Rattle.rx_figures.specs.Figures.{rounds}
use Rattle.rx_figures.proofs.figures.settled.Given as goal

-- the rounds that are left make of the table what all make of none
abbrev pub invariant-loop-left : goal.invariant-loop-left
invariant-loop-left l = rounds l.left l.program l.table.items ≡ rounds l.most l.program []

abbrev pub decreases-loop-left : goal.decreases-loop-left
decreases-loop-left l = l.left
