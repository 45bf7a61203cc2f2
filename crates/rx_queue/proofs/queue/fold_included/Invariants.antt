use Rattle.std.proofs.Common.{◌≡◌, drop}
use Rattle.rx_queue.specs.History.{state_from, was_included}
use Rattle.rx_queue.proofs.queue.fold_included.Given as goal

abbrev pub invariant-folding : goal.invariant-folding
invariant-folding g l = state_from (g.F.Fold.answers l.fold) was_included l.fn.state l.entries
    ≡ state_from (g.F.Fold.answers l.fold) was_included l.state (drop l.entry-index l.entries)
