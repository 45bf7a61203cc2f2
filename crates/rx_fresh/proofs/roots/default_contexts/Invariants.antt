use Rattle.std.proofs.Common.{◌≡◌, ◌++◌, map, drop}
use Rattle.std.specs.Prelude.{filter_map}
use Rattle.rx_ast.specs.Syntax.{as_context}
use Rattle.rx_meaning.specs.Fresh.{default_of, default_contexts}
use Rattle.rx_fresh.proofs.roots.default_contexts.Given as goal

-- the defaults so far, before those of what is left, are all
abbrev pub invariant-loop-declaration : goal.invariant-loop-declaration
invariant-loop-declaration l =
    l.values.items ++ map (default_of l.checked) (filter_map as_context (drop l.declaration-index l.declaration-items)) ≡ default_contexts l.checked
