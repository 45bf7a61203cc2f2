use Rattle.std.proofs.Common.{◌≡◌, ◌++◌, [], drop}
use Rattle.rx_mentions.specs.Mentions.{declarations_mentions}
use Rattle.rx_mentions.proofs.walk.Walk.declarations.Given as goal

-- what is noted and what is left make the whole
abbrev pub invariant-loop-declaration : goal.invariant-loop-declaration
invariant-loop-declaration l =
    l.self ++ declarations_mentions l.taken (drop l.declaration-index l.declarations) ≡ l.fn.self ++ declarations_mentions [] l.declarations
