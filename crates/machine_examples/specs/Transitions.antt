-- Transitions that wait, and updates that hidden content missed (react.dev, useTransition and Suspense).
use Rattle.std.specs.Prelude.{List, [], ◌∷◌, false, codes, pos}
use Rattle.rx_base.specs.Values.{Text}
use Rattle.rx_step.specs.declared.step.Step.{Step}
use Rattle.rx_step.specs.declared.step.LaneWord.TheVariants as word
use Rattle.rx_step.specs.declared.step.Dispatch.TheVariants as dispatch
use Rattle.rx_step.specs.declared.step.Step.TheVariants as step
use Rattle.machine_examples.specs.Writes.{Writes}
use Rattle.machine_examples.specs.Programs.{boxes}

-- the script of the example "updates that a hidden box missed come when it is shown, and no later ones with them"
abbrev pub owed_script : List Step
owed_script =
    step.Flush
    ∷ step.Dispatch (dispatch.Set word.Sync ((codes "App", 0) ∷ []) (codes "w") (pos 1))
    ∷ step.Dispatch (dispatch.Call word.Default ((codes "App", 0) ∷ (codes "Box", 0) ∷ []) (codes "s") (codes "app") (pos 1))
    ∷ step.Flush
    ∷ step.State
    ∷ step.Dispatch (dispatch.Call word.Default ((codes "App", 0) ∷ (codes "Box", 0) ∷ []) (codes "s") (codes "app") (pos 2))
    ∷ step.Dispatch (dispatch.Call word.Sync ((codes "App", 0) ∷ (codes "Box", 0) ∷ []) (codes "s") (codes "app") (pos 3))
    ∷ step.Resolve (codes "r") (pos 5)
    ∷ step.FlushSync
    ∷ step.State
    ∷ step.Flush
    ∷ step.State
    ∷ []

-- what it writes
abbrev pub owed_report : Text
owed_report = codes "commit 1 Default\ncommit 2 Sync\ncommit 3 Default\nstate\n  [1] App w=1\n  [2] Box s=0 hidden\ncommit 4 Sync\nstate\n  [1] App w=1\n  [2] Box s=13\n  [3] Wait\ncommit 5 Default\ncommit 6 Retry\nstate\n  [1] App w=1\n  [2] Box s=123\n  [3] Wait\nend quiet\n"

-- updates that a hidden box missed come when it is shown, and no later ones with them
abbrev pub Owed : Type 0
Owed = Writes boxes owed_script false owed_report

-- the script of the example "a transition that would hide what is shown is put off"
abbrev pub deferred_script : List Step
deferred_script =
    step.Flush
    ∷ step.Dispatch (dispatch.Set word.Transition ((codes "App", 0) ∷ []) (codes "w") (pos 1))
    ∷ step.Flush
    ∷ []

-- what it writes
abbrev pub deferred_report : Text
deferred_report = codes "commit 1 Default\ndefer T1\nend pending T1 suspended 0\n"

-- a transition that would hide what is shown is put off
abbrev pub Deferred : Type 0
Deferred = Writes boxes deferred_script false deferred_report

-- the script of the example "a transition that was put off goes on when its resource comes"
abbrev pub deferred_then_resolved_script : List Step
deferred_then_resolved_script =
    step.Flush
    ∷ step.Dispatch (dispatch.Set word.Transition ((codes "App", 0) ∷ []) (codes "w") (pos 1))
    ∷ step.Flush
    ∷ step.Resolve (codes "r") (pos 5)
    ∷ step.Flush
    ∷ step.Tree
    ∷ []

-- what it writes
abbrev pub deferred_then_resolved_report : Text
deferred_then_resolved_report = codes "commit 1 Default\ndefer T1\ncommit 2 T1\ntree\n  p\n    \"0\"\n    b\n      \"5\"\nend quiet\n"

-- a transition that was put off goes on when its resource comes
abbrev pub DeferredThenResolved : Type 0
DeferredThenResolved = Writes boxes deferred_then_resolved_script false deferred_then_resolved_report

-- the script of the example "a transition that was put off loses its deadline and gets a new one later"
abbrev pub new_deadline_script : List Step
new_deadline_script =
    step.Flush
    ∷ step.Dispatch (dispatch.Set word.Transition ((codes "App", 0) ∷ []) (codes "w") (pos 1))
    ∷ step.Flush
    ∷ step.Tick 5000
    ∷ step.Resolve (codes "r") (pos 5)
    ∷ step.Work 1
    ∷ []

-- what it writes
abbrev pub new_deadline_report : Text
new_deadline_report = codes "commit 1 Default\ndefer T1\nend pending T1 suspended 0\n"

-- a transition that was put off loses its deadline and gets a new one later
abbrev pub NewDeadline : Type 0
NewDeadline = Writes boxes new_deadline_script false new_deadline_report

-- the script of the example "two transitions of one hook are rendered together"
abbrev pub linked_script : List Step
linked_script =
    step.Flush
    ∷ step.Dispatch (dispatch.Set word.Transition ((codes "App", 0) ∷ []) (codes "w") (pos 1))
    ∷ step.Work 1
    ∷ step.Dispatch (dispatch.Set word.Transition ((codes "App", 0) ∷ []) (codes "w") (pos 2))
    ∷ step.Flush
    ∷ []

-- what it writes
abbrev pub linked_report : Text
linked_report = codes "commit 1 Default\ndefer T1\ndefer T1+T2\nend pending T1+T2 suspended 0\n"

-- two transitions of one hook are rendered together
abbrev pub Linked : Type 0
Linked = Writes boxes linked_script false linked_report
