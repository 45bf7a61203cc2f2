use Rattle.std.proofs.Common.{◌≡◌, ◌++◌, map, drop}
use Rattle.std.specs.Prelude.{filter_map}
use Rattle.rx_ast.specs.Syntax.{as_function}
use Rattle.rx_rules.specs.Names.{function_number}
use Rattle.rx_mentions.specs.Mentions.{function_mentions}
use Rattle.rx_mentions.specs.Ways.{called_in, calls}
use Rattle.rx_mentions.proofs.leading.calls_of.Given as goal

-- what is listed and what is left make the whole
abbrev pub invariant-loop-declaration : goal.invariant-loop-declaration
invariant-loop-declaration l =
    l.graph.items ++ map (λ d. map (function_number l.program) (filter_map called_in (function_mentions d))) (filter_map as_function (drop l.declaration-index l.declaration-items)) ≡ calls l.program
