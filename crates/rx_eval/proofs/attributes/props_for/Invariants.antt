use Rattle.std.proofs.Common.{◌≡◌, ◌++◌, map, drop}
use Rattle.std.specs.Prelude.{filter_map}
use Rattle.rx_rules.specs.Names.{integer_in}
use Rattle.rx_meaning.specs.Body.{prop_named}
use Rattle.rx_eval.proofs.attributes.props_for.Given as goal

-- what was given so far, and what is given to the parameters that are left
abbrev pub invariant-loop-parameter : goal.invariant-loop-parameter
invariant-loop-parameter l =
    l.props.items ++ map (prop_named l.evaluator l.env l.attributes) (filter_map integer_in (drop l.parameter-index l.parameters))
    ≡ map (prop_named l.evaluator l.env l.attributes) (filter_map integer_in l.parameters)
