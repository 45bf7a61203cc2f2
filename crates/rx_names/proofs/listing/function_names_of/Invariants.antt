use Rattle.std.proofs.Common.{◌≡◌, ◌++◌, map, drop}
use Rattle.std.specs.Prelude.{filter_map}
use Rattle.rx_ast.specs.Syntax.{as_function}
use Rattle.rx_names.specs.Listed.{function_names}
use Rattle.rx_names.proofs.listing.function_names_of.Given as goal

-- what is listed and what is left make the whole
abbrev pub invariant-loop-declaration : goal.invariant-loop-declaration
invariant-loop-declaration l = l.names ++ map (λ d. d.name) (filter_map as_function (drop l.declaration-index l.declaration-items)) ≡ function_names l.program
