use Rattle.std.proofs.Common.{◌≡◌, map, drop}
use Rattle.std.specs.Prelude.{slice_index}
use Rattle.rx_figures.specs.Costs.{cost_limit}
use Rattle.rx_figures.specs.Costs.{first_over}
use Rattle.rx_figures.specs.Costs.{cost_from}
use Rattle.rx_figures.proofs.costs.first_over.Given as goal

-- the first is among those that are left
abbrev pub invariant-loop-inner : goal.invariant-loop-inner
invariant-loop-inner l =
    first_over cost_limit (map (cost_from (slice_index l.costs) l.program) (drop l.inner-index l.inner-items)) ≡ first_over cost_limit (map (cost_from (slice_index l.costs) l.program) l.program.declarations)
