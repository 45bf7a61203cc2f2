use Rattle.std.proofs.Common.{◌≡◌, ◌++◌, map, drop}
use Rattle.std.specs.Prelude.{filter_map}
use Rattle.rx_rules.specs.Names.{component_number}
use Rattle.rx_mentions.specs.Ways.{placed_in}
use Rattle.rx_mentions.proofs.leading.placed.Given as goal

-- what is listed and what is left make the whole
abbrev pub invariant-loop-mention : goal.invariant-loop-mention
invariant-loop-mention l =
    l.items.items ++ map (component_number l.program) (filter_map placed_in (drop l.mention-index l.mentions)) ≡ map (component_number l.program) (filter_map placed_in l.mentions)
