use Rattle.std.proofs.Common.{◌≡◌, ◌++◌, map, drop}
use Rattle.std.specs.Prelude.{filter_map}
use Rattle.rx_ast.specs.Syntax.{as_component, components}
use Rattle.rx_names.proofs.index.components_of.Given as goal

-- what is found and what is left make the whole
abbrev pub invariant-loop-declaration : goal.invariant-loop-declaration
invariant-loop-declaration l = map (λ c. c.now) l.found.items ++ filter_map as_component (drop l.declaration-index l.declaration-items) ≡ components l.program
