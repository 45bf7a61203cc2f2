use Rattle.std.proofs.Common.{◌≡◌, slice_get, drop}
use Rattle.std.specs.Prelude.{filter_map}
use Rattle.rx_ast.specs.Syntax.{as_context}
use Rattle.rx_ast.proofs.program.Program.context.Given as goal

-- what is wanted stands at the number that is left among the declarations that are left
abbrev pub invariant-loop-declaration : goal.invariant-loop-declaration
invariant-loop-declaration l =
    slice_get (filter_map as_context (drop l.declaration-index l.declaration-items)) l.left ≡ slice_get (filter_map as_context l.self.declarations) l.number
