use Rattle.std.proofs.Common.{◌≡◌, ◌++◌, drop}
use Rattle.rx_mentions.specs.Mentions.{given_names}
use Rattle.rx_mentions.proofs.mention.names_given.Given as goal

-- what is listed and what is left make the whole
abbrev pub invariant-loop-attribute : goal.invariant-loop-attribute
invariant-loop-attribute l = l.names ++ given_names (drop l.attribute-index l.attributes) ≡ given_names l.attributes
