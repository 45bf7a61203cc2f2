use Rattle.std.proofs.Common.{◌≡◌, ◌++◌, drop}
use Rattle.std.specs.Prelude.{fold}
use Rattle.rx_mentions.specs.Mentions.{lines_mentions, after_line}
use Rattle.rx_mentions.proofs.walk.Walk.lines.Given as goal

-- what is noted and bound and what is left make the whole
abbrev pub invariant-loop-line : goal.invariant-loop-line
invariant-loop-line l =
    record {
      noted : l.self ++ lines_mentions l.scope (drop l.line-index l.lines) ≡ l.fn.self ++ lines_mentions l.fn.scope l.lines;
      bindings : fold after_line l.scope (drop l.line-index l.lines) ≡ fold after_line l.fn.scope l.lines;
    }
