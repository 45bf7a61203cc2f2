use Rattle.std.proofs.Common.{◌≡◌}
use Rattle.rx_hooks.proofs.Steps.{Stepped}
use Rattle.rx_resources.specs.Kept.{committed}
use Rattle.rx_resources.proofs.store.commit_all.Given as goal

abbrev pub invariant-committing : goal.invariant-committing
invariant-committing l = Stepped (λ x y. y ≡ committed l.lanes l.cut x) l.resource-index l.fn.resources l.resources
