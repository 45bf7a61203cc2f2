use Rattle.std.proofs.Common.{◌≡◌, ◌++◌, map, drop}
use Rattle.std.specs.Prelude.{Some, filter_map}
use Rattle.rx_ast.specs.Syntax.{as_function}
use Rattle.rx_check.specs.Places.{declared_at}
use Rattle.rx_check.proofs.places.function_places.Given as goal

-- the places so far, and those among the declarations that are left, are all
abbrev pub invariant-loop-declaration : goal.invariant-loop-declaration
invariant-loop-declaration l =
    (l.place ≡ l.declaration-index)
    × (map (declared_at as_function l.program.declarations) l.places.items ++ map Some (filter_map as_function (drop l.declaration-index l.program.declarations)) ≡ map Some (filter_map as_function l.program.declarations))
