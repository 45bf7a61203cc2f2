use Rattle.std.proofs.Common.{◌≡◌, drop}
use Rattle.std.specs.List.{list_any}
use Rattle.std.specs.Prelude.{filter_map}
use Rattle.rx_ast.specs.Syntax.{as_component}
use Rattle.rx_rules.specs.Bounds.{has_throw, may_throw_in}
use Rattle.rx_check.proofs.checked.may_throw.Given as goal

-- a component that may throw is looked for among the declarations that are left
abbrev pub invariant-loop-declaration : goal.invariant-loop-declaration
invariant-loop-declaration l = list_any has_throw (filter_map as_component (drop l.declaration-index l.declaration-items)) ≡ may_throw_in l.program
