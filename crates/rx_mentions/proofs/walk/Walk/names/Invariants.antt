use Rattle.std.proofs.Common.{◌≡◌, ◌++◌, drop}
use Rattle.std.specs.Prelude.{fold}
use Rattle.rx_mentions.specs.Mentions.{names_mentions, bound}
use Rattle.rx_mentions.proofs.walk.Walk.names.Given as goal

-- what is noted and bound and what is left make the whole
abbrev pub invariant-loop-name : goal.invariant-loop-name
invariant-loop-name l =
    record {
      noted : l.self ++ names_mentions l.scope (drop l.name-index l.names) ≡ l.fn.self ++ names_mentions l.fn.scope l.names;
      bindings : fold bound l.scope (drop l.name-index l.names) ≡ fold bound l.fn.scope l.names;
    }
