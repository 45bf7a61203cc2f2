use Rattle.std.proofs.Common.{◌≡◌, drop}
use Rattle.std.specs.Prelude.{filter_map}
use Rattle.rx_check.specs.Checks.{repeat_in}
use Rattle.rx_order.specs.Graphs.{first}
use Rattle.rx_check.proofs.checks.first_repeat.Given as goal

-- the first is among those that are left
abbrev pub invariant-loop-mention : goal.invariant-loop-mention
invariant-loop-mention l = first (filter_map (repeat_in) (drop l.mention-index l.mentions)) ≡ first (filter_map (repeat_in) l.mentions)
