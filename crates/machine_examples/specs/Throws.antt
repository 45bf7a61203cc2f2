-- What is thrown (react.dev, Catching rendering errors with an error boundary).
use Rattle.std.specs.Prelude.{List, [], ◌∷◌, false, codes, pos}
use Rattle.rx_base.specs.Values.{Text}
use Rattle.rx_step.specs.declared.step.Step.{Step}
use Rattle.rx_step.specs.declared.step.LaneWord.TheVariants as word
use Rattle.rx_step.specs.declared.step.Dispatch.TheVariants as dispatch
use Rattle.rx_step.specs.declared.step.Step.TheVariants as step
use Rattle.machine_examples.specs.Writes.{Writes}
use Rattle.machine_examples.specs.Programs.{throwing, late_throwing}

-- the script of the example "what its children throw, an error boundary catches for good"
abbrev pub caught_script : List Step
caught_script =
    step.Flush
    ∷ step.Dispatch (dispatch.Set word.Sync ((codes "App", 0) ∷ []) (codes "v") (pos 3))
    ∷ step.Flush
    ∷ step.Tree
    ∷ step.Dispatch (dispatch.Set word.Sync ((codes "App", 0) ∷ []) (codes "v") (pos 4))
    ∷ step.Flush
    ∷ step.Tree
    ∷ step.State
    ∷ []

-- what it writes
abbrev pub caught_report : Text
caught_report = codes "commit 1 Default\ncommit 2 Sync\ncaught 7\ntree\n  div\n    i\n    \"3\"\ncommit 3 Sync\ntree\n  div\n    i\n    \"4\"\nstate\n  [1] App v=4 k=0\nend quiet\n"

-- what its children throw, an error boundary catches for good
abbrev pub Caught : Type 0
Caught = Writes throwing caught_script false caught_report

-- the script of the example "an error boundary with another key tries its children anew"
abbrev pub caught_anew_script : List Step
caught_anew_script =
    step.Flush
    ∷ step.Dispatch (dispatch.Set word.Sync ((codes "App", 0) ∷ []) (codes "v") (pos 3))
    ∷ step.Flush
    ∷ step.Dispatch (dispatch.Set word.Sync ((codes "App", 0) ∷ []) (codes "v") (pos 4))
    ∷ step.Dispatch (dispatch.Set word.Sync ((codes "App", 0) ∷ []) (codes "k") (pos 1))
    ∷ step.Flush
    ∷ step.Tree
    ∷ step.State
    ∷ []

-- what it writes
abbrev pub caught_anew_report : Text
caught_anew_report = codes "commit 1 Default\ncommit 2 Sync\ncaught 7\ncommit 3 Sync\ntree\n  div\n    b\n      \"4\"\n    \"4\"\nstate\n  [1] App v=4 k=1\n  [3] T n=0\nend quiet\n"

-- an error boundary with another key tries its children anew
abbrev pub CaughtAnew : Type 0
CaughtAnew = Writes throwing caught_anew_script false caught_anew_report

-- the script of the example "a value that came makes a nested boundary's children throw"
abbrev pub caught_late_script : List Step
caught_late_script =
    step.Flush
    ∷ step.Resolve (codes "a") (pos 5)
    ∷ step.Dispatch (dispatch.Set word.Sync ((codes "App", 0) ∷ []) (codes "s") (pos 1))
    ∷ step.Flush
    ∷ step.Tree
    ∷ []

-- what it writes
abbrev pub caught_late_report : Text
caught_late_report = codes "commit 1 Default\ncommit 2 Sync\ncaught 5\ntree\n  div\n    \"1\"\n    i\nend quiet\n"

-- a value that came makes a nested boundary's children throw
abbrev pub CaughtLate : Type 0
CaughtLate = Writes late_throwing caught_late_script false caught_late_report
