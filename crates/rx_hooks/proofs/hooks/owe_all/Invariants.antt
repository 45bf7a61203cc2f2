use Rattle.rx_hooks.specs.Hooks.{owed_hook}
use Rattle.rx_hooks.proofs.Lists.{Changes}
use Rattle.rx_hooks.proofs.Steps.{Stepped}
use Rattle.rx_hooks.proofs.hooks.owe_all.Given as goal

abbrev pub invariant-owing : goal.invariant-owing
invariant-owing l = Stepped (Changes (owed_hook l.lanes l.cut)) l.hook-index l.fn.hooks l.hooks
