use Rattle.std.proofs.Common.{◌≡◌, [], drop}
use Rattle.std.specs.Prelude.{filter_map, flat_map, fold}
use Rattle.rx_ast.specs.Syntax.{as_component, components}
use Rattle.rx_rules.specs.Names.{resources_of}
use Rattle.rx_names.specs.Listed.{with_name}
use Rattle.rx_names.proofs.listing.resources_of.Given as goal

-- what is left to read makes of the names what all makes of none
abbrev pub invariant-loop-declaration : goal.invariant-loop-declaration
invariant-loop-declaration l =
    fold with_name l.names (flat_map resources_of (filter_map as_component (drop l.declaration-index l.declaration-items))) ≡ fold with_name [] (flat_map resources_of (components l.program))
