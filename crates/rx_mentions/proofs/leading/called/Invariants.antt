use Rattle.std.proofs.Common.{◌≡◌, ◌++◌, map, drop}
use Rattle.std.specs.Prelude.{filter_map}
use Rattle.rx_rules.specs.Names.{function_number}
use Rattle.rx_mentions.specs.Ways.{called_in}
use Rattle.rx_mentions.proofs.leading.called.Given as goal

-- what is listed and what is left make the whole
abbrev pub invariant-loop-mention : goal.invariant-loop-mention
invariant-loop-mention l =
    l.items.items ++ map (function_number l.program) (filter_map called_in (drop l.mention-index l.mentions)) ≡ map (function_number l.program) (filter_map called_in l.mentions)
