use Rattle.std.proofs.Common.{◌≡◌, ◌++◌, drop}
use Rattle.rx_mentions.specs.Mentions.{attributes_mentions}
use Rattle.rx_mentions.proofs.walk.Walk.attributes.Given as goal

-- what is noted and what is left make the whole
abbrev pub invariant-loop-attribute : goal.invariant-loop-attribute
invariant-loop-attribute l =
    l.self ++ attributes_mentions l.scope l.taken (drop l.attribute-index l.attributes) ≡ l.fn.self ++ attributes_mentions l.scope l.fn.taken l.attributes
