use Rattle.std.proofs.Common.{◌≡◌, ◌++◌, map, drop}
use Rattle.std.specs.Prelude.{filter_map}
use Rattle.rx_ast.specs.Syntax.{as_function, functions}
use Rattle.rx_names.proofs.index.functions_of.Given as goal

-- what is found and what is left make the whole
abbrev pub invariant-loop-declaration : goal.invariant-loop-declaration
invariant-loop-declaration l = map (λ f. f.now) l.found.items ++ filter_map as_function (drop l.declaration-index l.declaration-items) ≡ functions l.program
