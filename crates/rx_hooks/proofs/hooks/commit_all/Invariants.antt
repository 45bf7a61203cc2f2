use Rattle.rx_hooks.specs.Hooks.{committed_hook}
use Rattle.rx_hooks.proofs.Lists.{Changes}
use Rattle.rx_hooks.proofs.Steps.{Stepped}
use Rattle.rx_hooks.proofs.hooks.commit_all.Given as goal

abbrev pub invariant-committing : goal.invariant-committing
invariant-committing l = Stepped (Changes committed_hook) l.hook-index l.fn.hooks l.hooks
