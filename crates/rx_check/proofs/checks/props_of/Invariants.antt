use Rattle.std.proofs.Common.{◌≡◌, ◌++◌, drop}
use Rattle.std.specs.Prelude.{filter_map}
use Rattle.rx_rules.specs.Names.{integer_in, prop_names}
use Rattle.rx_check.proofs.checks.props_of.Given as goal

-- what is listed and what is left make the whole
abbrev pub invariant-loop-parameter : goal.invariant-loop-parameter
invariant-loop-parameter l = l.names ++ filter_map integer_in (drop l.parameter-index l.parameter-items) ≡ prop_names l.component
