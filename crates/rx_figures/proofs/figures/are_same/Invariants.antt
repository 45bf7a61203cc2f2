use Rattle.std.proofs.Common.{◌≡◌, take}
use Rattle.rx_figures.proofs.figures.are_same.Given as goal

-- they agree so far
abbrev pub invariant-loop-at : goal.invariant-loop-at
invariant-loop-at l = take l.at l.a ≡ take l.at l.b
