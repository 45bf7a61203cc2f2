use Rattle.std.proofs.Common.{◌≡◌, drop}
use Rattle.std.specs.Prelude.{filter_map}
use Rattle.rx_check.specs.Checks.{unknown_among}
use Rattle.rx_order.specs.Graphs.{first}
use Rattle.rx_check.proofs.checks.first_unknown.Given as goal

-- the first is among those that are left
abbrev pub invariant-loop-mention : goal.invariant-loop-mention
invariant-loop-mention l = first (filter_map (unknown_among l.listing.functions l.listing.components l.listing.contexts) (drop l.mention-index l.mentions)) ≡ first (filter_map (unknown_among l.listing.functions l.listing.components l.listing.contexts) l.mentions)
