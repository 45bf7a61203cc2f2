use Rattle.std.proofs.Common.{◌≡◌, List, take}
use Rattle.rx_queue.specs.History.{Answers}
use Rattle.rx_hooks.specs.Hooks.{HookHistory, HooksStandFor, work_of_hooks}
use Rattle.rx_hooks.proofs.hooks.work_in.Given as goal

abbrev pub invariant-working : goal.invariant-working
invariant-working l = (answers : Answers) (histories : List HookHistory) → HooksStandFor answers l.hooks histories
    → l.work ≡ work_of_hooks l.lanes l.cut (take l.hook-index histories)
