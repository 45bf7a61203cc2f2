use Rattle.std.proofs.Common.{◌≡◌, List, take}
use Rattle.rx_queue.specs.History.{Answers}
use Rattle.rx_hooks.specs.Hooks.{HookHistory, HooksStandFor, pending_of_hooks}
use Rattle.rx_hooks.proofs.hooks.pending_in.Given as goal

abbrev pub invariant-pending : goal.invariant-pending
invariant-pending l = (answers : Answers) (histories : List HookHistory) → HooksStandFor answers l.hooks histories
    → l.lanes ≡ pending_of_hooks (take l.hook-index histories)
