use Rattle.std.proofs.Common.{◌≡◌, ◌++◌, drop}
use Rattle.std.specs.Prelude.{fold}
use Rattle.rx_mentions.specs.Mentions.{parameters_mentions, after_parameter}
use Rattle.rx_mentions.proofs.walk.Walk.parameters.Given as goal

-- what is noted and bound and what is left make the whole
abbrev pub invariant-loop-parameter : goal.invariant-loop-parameter
invariant-loop-parameter l =
    record {
      noted : l.self ++ parameters_mentions l.scope (drop l.parameter-index l.parameters) ≡ l.fn.self ++ parameters_mentions l.fn.scope l.parameters;
      bindings : fold after_parameter l.scope (drop l.parameter-index l.parameters) ≡ fold after_parameter l.fn.scope l.parameters;
    }
