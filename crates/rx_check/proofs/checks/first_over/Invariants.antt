use Rattle.std.proofs.Common.{◌≡◌, drop}
use Rattle.std.specs.Prelude.{filter_map}
use Rattle.rx_check.specs.Limits.{limit_of}
use Rattle.rx_check.specs.Checks.{measure_in}
use Rattle.rx_figures.specs.Costs.{first_over}
use Rattle.rx_check.proofs.checks.first_over.Given as goal

-- the first is among those that are left
abbrev pub invariant-loop-mention : goal.invariant-loop-mention
invariant-loop-mention l =
    first_over (limit_of l.program l.what) (filter_map (measure_in l.what) (drop l.mention-index l.mentions)) ≡ first_over (limit_of l.program l.what) (filter_map (measure_in l.what) l.mentions)
