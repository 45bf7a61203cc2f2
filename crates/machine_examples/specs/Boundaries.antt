-- Content that waits (react.dev, Suspense).
use Rattle.std.specs.Prelude.{List, [], ◌∷◌, true, false, codes, pos}
use Rattle.rx_base.specs.Values.{Text}
use Rattle.rx_step.specs.declared.step.Step.{Step}
use Rattle.rx_step.specs.declared.step.LaneWord.TheVariants as word
use Rattle.rx_step.specs.declared.step.Dispatch.TheVariants as dispatch
use Rattle.rx_step.specs.declared.step.Step.TheVariants as step
use Rattle.machine_examples.specs.Writes.{Writes}
use Rattle.machine_examples.specs.Programs.{users, late_users, nested_boundaries, boxes, boxes_with_effects}

-- the script of the example "content that waits at its mount keeps no state"
abbrev pub first_wait_script : List Step
first_wait_script =
    step.Flush
    ∷ step.Tree
    ∷ step.Dispatch (dispatch.Set word.Sync ((codes "App", 0) ∷ []) (codes "p") (pos 2))
    ∷ step.Flush
    ∷ step.Resolve (codes "user") (pos 40)
    ∷ step.Flush
    ∷ step.Tree
    ∷ step.State
    ∷ []

-- what it writes
abbrev pub first_wait_report : Text
first_wait_report = codes "commit 1 Default\ntree\n  i\ncommit 2 Sync\ncommit 3 Retry\ntree\n  b\n    \"42\"\nstate\n  [1] App p=2\n  [2] User n=2\nend quiet\n"

-- content that waits at its mount keeps no state
abbrev pub FirstWait : Type 0
FirstWait = Writes users first_wait_script false first_wait_report

-- the script of the example "a render does not see what is resolved after its start"
abbrev pub later_resolution_script : List Step
later_resolution_script =
    step.Flush
    ∷ step.Dispatch (dispatch.Set word.Transition ((codes "App", 0) ∷ []) (codes "s") (pos 1))
    ∷ step.Work 1
    ∷ step.Resolve (codes "user") (pos 8)
    ∷ step.Flush
    ∷ step.Tree
    ∷ []

-- what it writes
abbrev pub later_resolution_report : Text
later_resolution_report = codes "commit 1 Default\ncommit 2 T1\ncommit 3 Retry\ntree\n  div\n    b\n      \"8\"\nend quiet\n"

-- a render does not see what is resolved after its start
abbrev pub LaterResolution : Type 0
LaterResolution = Writes late_users later_resolution_script false later_resolution_report

-- the script of the example "a second value for a resource is refused"
abbrev pub resolved_twice_script : List Step
resolved_twice_script =
    step.Flush
    ∷ step.Resolve (codes "user") (pos 1)
    ∷ step.Resolve (codes "user") (pos 2)
    ∷ step.Flush
    ∷ []

-- what it writes
abbrev pub resolved_twice_report : Text
resolved_twice_report = codes "commit 1 Default\nalready user 1\ncommit 2 Retry\nend quiet\n"

-- a second value for a resource is refused
abbrev pub ResolvedTwice : Type 0
ResolvedTwice = Writes users resolved_twice_script false resolved_twice_report

-- the script of the example "a boundary whose fallback waits passes the wait outwards"
abbrev pub waiting_fallback_script : List Step
waiting_fallback_script =
    step.Flush
    ∷ step.Tree
    ∷ step.Resolve (codes "f") (pos 5)
    ∷ step.Flush
    ∷ step.Tree
    ∷ step.Resolve (codes "a") (pos 7)
    ∷ step.Flush
    ∷ step.Tree
    ∷ []

-- what it writes
abbrev pub waiting_fallback_report : Text
waiting_fallback_report = codes "commit 1 Default\ntree\n  i\ncommit 2 Retry\ntree\n  p\n  s\n    \"5\"\ncommit 3 Retry\ntree\n  p\n  b\n    \"7\"\nend quiet\n"

-- a boundary whose fallback waits passes the wait outwards
abbrev pub WaitingFallback : Type 0
WaitingFallback = Writes nested_boundaries waiting_fallback_script false waiting_fallback_report

-- the script of the example "content that waits again is hidden beside its fallback"
abbrev pub hidden_hosts_script : List Step
hidden_hosts_script =
    step.Flush
    ∷ step.Dispatch (dispatch.Set word.Sync ((codes "App", 0) ∷ []) (codes "w") (pos 1))
    ∷ step.Flush
    ∷ step.Tree
    ∷ []

-- what it writes
abbrev pub hidden_hosts_report : Text
hidden_hosts_report = codes "commit 1 Default\nop create #1 p\nop text #2 \"0\"\nop place #1 under #0 at end\nop place #2 under #1 at end\ncommit 2 Sync\nop create #3 i\nop place #3 under #0 at end\nop hide #1\ntree\n  p hidden\n    \"0\"\n  i\nend pending none suspended 1\n"

-- content that waits again is hidden beside its fallback
abbrev pub HiddenHosts : Type 0
HiddenHosts = Writes boxes hidden_hosts_script true hidden_hosts_report

-- the script of the example "hiding destroys layout effects alone, showing makes them again"
abbrev pub hiding_and_showing_script : List Step
hiding_and_showing_script =
    step.Flush
    ∷ step.Passive
    ∷ step.Dispatch (dispatch.Set word.Sync ((codes "App", 0) ∷ []) (codes "w") (pos 1))
    ∷ step.Flush
    ∷ step.Resolve (codes "r") (pos 5)
    ∷ step.Flush
    ∷ step.Passive
    ∷ []

-- what it writes
abbrev pub hiding_and_showing_report : Text
hiding_and_showing_report = codes "commit 1 Default\nlayout + [2] \"bl\" 0\npassive + [2] \"bp\" 0\ncommit 2 Sync\nlayout - [2] \"bl\" 0\ncommit 3 Retry\nlayout + [2] \"bl\" 1\npassive - [2] \"bp\" 0\npassive + [2] \"bp\" 1\nend quiet\n"

-- hiding destroys layout effects alone, showing makes them again
abbrev pub HidingAndShowing : Type 0
HidingAndShowing = Writes boxes_with_effects hiding_and_showing_script false hiding_and_showing_report
