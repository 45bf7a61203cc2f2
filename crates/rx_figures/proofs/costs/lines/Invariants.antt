use Rattle.std.proofs.Common.{◌≡◌, ◌≤◌, length, drop}
use Rattle.std.specs.Prelude.{slice_index}
use Rattle.rx_figures.specs.Costs.{lines_cost}
use Rattle.rx_figures.proofs.costs.lines.Given as goal

-- the sum is that of what was passed, from the end on
abbrev pub invariant-loop-at : goal.invariant-loop-at
invariant-loop-at l =
    record {
      within : l.at ≤ length l.lines;
      total : l.sum ≡ lines_cost (slice_index l.costs) l.program ((drop l.at l.lines));
    }

abbrev pub decreases-loop-at : goal.decreases-loop-at
decreases-loop-at l = l.at
