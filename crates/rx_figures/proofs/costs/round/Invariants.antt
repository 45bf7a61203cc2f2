use Rattle.std.proofs.Common.{◌≡◌, ◌++◌, map, drop}
use Rattle.std.specs.Prelude.{filter_map, slice_index}
use Rattle.rx_ast.specs.Syntax.{as_function}
use Rattle.rx_figures.specs.Costs.{body_cost, cost_round}
use Rattle.rx_figures.proofs.costs.round.Given as goal

-- what is computed and what is left make the whole
abbrev pub invariant-loop-declaration : goal.invariant-loop-declaration
invariant-loop-declaration l =
    l.next.items ++ map (body_cost (slice_index l.costs) l.program) (filter_map as_function (drop l.declaration-index l.declaration-items)) ≡ cost_round l.program l.costs
