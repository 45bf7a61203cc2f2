use Rattle.rx_hooks.proofs.Lists.{Renders}
use Rattle.rx_hooks.proofs.Steps.{Stepped}
use Rattle.rx_hooks.proofs.hooks.render_all.Given as goal

abbrev pub invariant-rendering : goal.invariant-rendering
invariant-rendering g l = Stepped (Renders (g.F.Fold.answers l.fold) l.lanes l.cut) l.hook-index l.fn.hooks l.hooks
