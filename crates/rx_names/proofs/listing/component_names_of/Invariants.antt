use Rattle.std.proofs.Common.{◌≡◌, ◌++◌, map, drop}
use Rattle.std.specs.Prelude.{filter_map}
use Rattle.rx_ast.specs.Syntax.{as_component}
use Rattle.rx_rules.specs.Names.{component_names}
use Rattle.rx_names.proofs.listing.component_names_of.Given as goal

-- what is listed and what is left make the whole
abbrev pub invariant-loop-declaration : goal.invariant-loop-declaration
invariant-loop-declaration l = l.names ++ map (λ d. d.name) (filter_map as_component (drop l.declaration-index l.declaration-items)) ≡ component_names l.program
