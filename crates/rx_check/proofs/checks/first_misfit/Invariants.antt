use Rattle.std.proofs.Common.{◌≡◌, drop}
use Rattle.std.specs.Prelude.{filter_map}
use Rattle.rx_check.specs.Checks.{misfit_in}
use Rattle.rx_order.specs.Graphs.{first}
use Rattle.rx_check.proofs.checks.first_misfit.Given as goal

-- the first is among those that are left
abbrev pub invariant-loop-mention : goal.invariant-loop-mention
invariant-loop-mention l = first (filter_map (misfit_in l.program) (drop l.mention-index l.mentions)) ≡ first (filter_map (misfit_in l.program) l.mentions)
