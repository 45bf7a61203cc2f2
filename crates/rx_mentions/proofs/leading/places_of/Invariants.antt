use Rattle.std.proofs.Common.{◌≡◌, ◌++◌, map, drop}
use Rattle.std.specs.Prelude.{filter_map}
use Rattle.rx_ast.specs.Syntax.{as_component}
use Rattle.rx_rules.specs.Names.{component_number}
use Rattle.rx_mentions.specs.Mentions.{component_mentions}
use Rattle.rx_mentions.specs.Ways.{placed_in, places}
use Rattle.rx_mentions.proofs.leading.places_of.Given as goal

-- what is listed and what is left make the whole
abbrev pub invariant-loop-declaration : goal.invariant-loop-declaration
invariant-loop-declaration l =
    l.graph.items ++ map (λ d. map (component_number l.program) (filter_map placed_in (component_mentions d))) (filter_map as_component (drop l.declaration-index l.declaration-items)) ≡ places l.program
