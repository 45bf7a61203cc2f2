use Rattle.std.proofs.Common.{◌≡◌, ◌++◌, drop}
use Rattle.std.specs.Prelude.{fold}
use Rattle.rx_mentions.specs.Mentions.{statements_mentions, after_statement}
use Rattle.rx_mentions.proofs.walk.Walk.statements.Given as goal

-- what is noted and bound and what is left make the whole
abbrev pub invariant-loop-statement : goal.invariant-loop-statement
invariant-loop-statement l =
    record {
      noted : l.self ++ statements_mentions l.scope (drop l.statement-index l.statements) ≡ l.fn.self ++ statements_mentions l.fn.scope l.statements;
      bindings : fold after_statement l.scope (drop l.statement-index l.statements) ≡ fold after_statement l.fn.scope l.statements;
    }
