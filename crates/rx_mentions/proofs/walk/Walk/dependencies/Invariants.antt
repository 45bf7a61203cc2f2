use Rattle.std.proofs.Common.{◌≡◌, ◌++◌, drop}
use Rattle.std.specs.Prelude.{flat_map}
use Rattle.rx_mentions.specs.Mentions.{expr_mentions}
use Rattle.rx_mentions.proofs.walk.Walk.dependencies.Given as goal

-- what is noted and what is left make the whole
abbrev pub invariant-loop-value : goal.invariant-loop-value
invariant-loop-value l = l.self ++ flat_map (expr_mentions l.scope) (drop l.value-index l.values) ≡ l.fn.self ++ flat_map (expr_mentions l.scope) l.values
