use Rattle.std.proofs.Common.{◌≡◌, ◌++◌, Some, map, drop}
use Rattle.std.specs.Prelude.{filter_map}
use Rattle.rx_ast.specs.Syntax.{as_component}
use Rattle.rx_rules.specs.Bounds.{body_if}
use Rattle.rx_figures.specs.Figures.{figures, known_in, round_of}
use Rattle.rx_figures.proofs.figures.round.Given as goal

-- what is computed and what is left make the whole
abbrev pub invariant-loop-declaration : goal.invariant-loop-declaration
invariant-loop-declaration l =
    l.next.items ++ map (λ c. body_if (figures l.program) (known_in l.table) l.program (Some c)) (filter_map as_component (drop l.declaration-index l.declaration-items)) ≡ round_of l.program l.table
