-- Renders that yield and are interrupted (react.dev, useTransition).
use Rattle.std.specs.Prelude.{List, [], ◌∷◌, false, codes, pos}
use Rattle.rx_base.specs.Values.{Text}
use Rattle.rx_step.specs.declared.step.Step.{Step}
use Rattle.rx_step.specs.declared.step.LaneWord.TheVariants as word
use Rattle.rx_step.specs.declared.step.Dispatch.TheVariants as dispatch
use Rattle.rx_step.specs.declared.step.Step.TheVariants as step
use Rattle.machine_examples.specs.Writes.{Writes}
use Rattle.machine_examples.specs.Programs.{appending, cells}

-- the script of the example "a budget of the unit bound finishes a sliced render"
abbrev pub must_finish_script : List Step
must_finish_script =
    step.Flush
    ∷ step.Dispatch (dispatch.Set word.Transition ((codes "App", 0) ∷ []) (codes "s") (pos 1))
    ∷ step.Work 16
    ∷ step.State
    ∷ []

-- what it writes
abbrev pub must_finish_report : Text
must_finish_report = codes "commit 1 Default\ncommit 2 T1\nstate\n  [1] App s=1\nend quiet\n"

-- a budget of the unit bound finishes a sliced render
abbrev pub MustFinish : Type 0
MustFinish = Writes appending must_finish_script false must_finish_report

-- the script of the example "one unit does not finish a render"
abbrev pub yields_script : List Step
yields_script =
    step.Flush
    ∷ step.Dispatch (dispatch.Set word.Transition ((codes "App", 0) ∷ []) (codes "s") (pos 1))
    ∷ step.Work 1
    ∷ step.State
    ∷ []

-- what it writes
abbrev pub yields_report : Text
yields_report = codes "commit 1 Default\nstate\n  [1] App s=0\nend pending T1 suspended 0\n"

-- one unit does not finish a render
abbrev pub Yields : Type 0
Yields = Writes appending yields_script false yields_report

-- the script of the example "an update of Sync discards the transition in progress"
abbrev pub interrupted_script : List Step
interrupted_script =
    step.Flush
    ∷ step.Dispatch (dispatch.Set word.Transition ((codes "App", 0) ∷ []) (codes "v") (pos 1))
    ∷ step.Work 3
    ∷ step.Dispatch (dispatch.Set word.Sync ((codes "App", 0) ∷ []) (codes "w") (pos 7))
    ∷ step.Flush
    ∷ []

-- what it writes
abbrev pub interrupted_report : Text
interrupted_report = codes "commit 1 Default\nlayout + [1] \"v\" 0\ncommit 2 Sync\ncommit 3 T1\nlayout - [1] \"v\" 0\nlayout + [1] \"v\" 1\nend quiet\n"

-- an update of Sync discards the transition in progress
abbrev pub Interrupted : Type 0
Interrupted = Writes cells interrupted_script false interrupted_report

-- the script of the example "an update of Default waits for the transition in progress"
abbrev pub not_interrupted_script : List Step
not_interrupted_script =
    step.Flush
    ∷ step.Dispatch (dispatch.Set word.Transition ((codes "App", 0) ∷ []) (codes "v") (pos 1))
    ∷ step.Work 3
    ∷ step.Dispatch (dispatch.Set word.Default ((codes "App", 0) ∷ []) (codes "w") (pos 7))
    ∷ step.Flush
    ∷ []

-- what it writes
abbrev pub not_interrupted_report : Text
not_interrupted_report = codes "commit 1 Default\nlayout + [1] \"v\" 0\ncommit 2 T1\nlayout - [1] \"v\" 0\nlayout + [1] \"v\" 1\ncommit 3 Default\nend quiet\n"

-- an update of Default waits for the transition in progress
abbrev pub NotInterrupted : Type 0
NotInterrupted = Writes cells not_interrupted_script false not_interrupted_report

-- the script of the example "a transition that has reached its deadline finishes in one turn"
abbrev pub expired_script : List Step
expired_script =
    step.Flush
    ∷ step.Dispatch (dispatch.Set word.Transition ((codes "App", 0) ∷ []) (codes "v") (pos 1))
    ∷ step.Tick 5000
    ∷ step.Work 1
    ∷ []

-- what it writes
abbrev pub expired_report : Text
expired_report = codes "commit 1 Default\nlayout + [1] \"v\" 0\ncommit 2 T1\nlayout - [1] \"v\" 0\nlayout + [1] \"v\" 1\nend quiet\n"

-- a transition that has reached its deadline finishes in one turn
abbrev pub Expired : Type 0
Expired = Writes cells expired_script false expired_report

-- the script of the example "one time unit before its deadline a transition is still sliced"
abbrev pub not_expired_script : List Step
not_expired_script =
    step.Flush
    ∷ step.Dispatch (dispatch.Set word.Transition ((codes "App", 0) ∷ []) (codes "v") (pos 1))
    ∷ step.Tick 4999
    ∷ step.Work 1
    ∷ []

-- what it writes
abbrev pub not_expired_report : Text
not_expired_report = codes "commit 1 Default\nlayout + [1] \"v\" 0\nend pending T1 suspended 0\n"

-- one time unit before its deadline a transition is still sliced
abbrev pub NotExpired : Type 0
NotExpired = Writes cells not_expired_script false not_expired_report
