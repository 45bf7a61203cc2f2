-- Updates that a render skips (react.dev, Queueing a Series of State Updates).
use Rattle.std.specs.Prelude.{List, [], ◌∷◌, false, codes, pos}
use Rattle.rx_base.specs.Values.{Text}
use Rattle.rx_step.specs.declared.step.Step.{Step}
use Rattle.rx_step.specs.declared.step.LaneWord.TheVariants as word
use Rattle.rx_step.specs.declared.step.Dispatch.TheVariants as dispatch
use Rattle.rx_step.specs.declared.step.Step.TheVariants as step
use Rattle.machine_examples.specs.Writes.{Writes}
use Rattle.machine_examples.specs.Programs.{appending, reducing}

-- the script of the example "later updates are applied again on top of a skipped one"
abbrev pub rebased_script : List Step
rebased_script =
    step.Flush
    ∷ step.Dispatch (dispatch.Call word.Sync ((codes "App", 0) ∷ []) (codes "s") (codes "app") (pos 1))
    ∷ step.Dispatch (dispatch.Call word.Transition ((codes "App", 0) ∷ []) (codes "s") (codes "app") (pos 2))
    ∷ step.Dispatch (dispatch.Call word.Sync ((codes "App", 0) ∷ []) (codes "s") (codes "app") (pos 3))
    ∷ step.Dispatch (dispatch.Call word.Transition ((codes "App", 0) ∷ []) (codes "s") (codes "app") (pos 4))
    ∷ step.FlushSync
    ∷ step.State
    ∷ step.Flush
    ∷ step.State
    ∷ []

-- what it writes
abbrev pub rebased_report : Text
rebased_report = codes "commit 1 Default\ncommit 2 Sync\nstate\n  [1] App s=13\ncommit 3 T1\nstate\n  [1] App s=1234\nend quiet\n"

-- later updates are applied again on top of a skipped one
abbrev pub Rebased : Type 0
Rebased = Writes appending rebased_script false rebased_report

-- the script of the example "a plain value between skipped updates cuts off what stood before it"
abbrev pub over_a_value_script : List Step
over_a_value_script =
    step.Flush
    ∷ step.Dispatch (dispatch.Call word.Sync ((codes "App", 0) ∷ []) (codes "s") (codes "app") (pos 1))
    ∷ step.Dispatch (dispatch.Call word.Transition ((codes "App", 0) ∷ []) (codes "s") (codes "app") (pos 2))
    ∷ step.Dispatch (dispatch.Set word.Sync ((codes "App", 0) ∷ []) (codes "s") (pos 9))
    ∷ step.Dispatch (dispatch.Call word.Transition ((codes "App", 0) ∷ []) (codes "s") (codes "app") (pos 4))
    ∷ step.FlushSync
    ∷ step.State
    ∷ step.Flush
    ∷ step.State
    ∷ []

-- what it writes
abbrev pub over_a_value_report : Text
over_a_value_report = codes "commit 1 Default\ncommit 2 Sync\nstate\n  [1] App s=9\ncommit 3 T1\nstate\n  [1] App s=94\nend quiet\n"

-- a plain value between skipped updates cuts off what stood before it
abbrev pub OverAValue : Type 0
OverAValue = Writes appending over_a_value_script false over_a_value_report

-- the script of the example "the actions of a reducer in two lanes"
abbrev pub reducer_rebased_script : List Step
reducer_rebased_script =
    step.Flush
    ∷ step.Dispatch (dispatch.Send word.Transition ((codes "App", 0) ∷ []) (codes "s") (pos 1))
    ∷ step.Dispatch (dispatch.Send word.Sync ((codes "App", 0) ∷ []) (codes "s") (pos 2))
    ∷ step.FlushSync
    ∷ step.State
    ∷ step.Flush
    ∷ step.State
    ∷ []

-- what it writes
abbrev pub reducer_rebased_report : Text
reducer_rebased_report = codes "commit 1 Default\ncommit 2 Sync\nstate\n  [1] App s=2 t=0\ncommit 3 T1\nstate\n  [1] App s=12 t=0\nend quiet\n"

-- the actions of a reducer in two lanes
abbrev pub ReducerRebased : Type 0
ReducerRebased = Writes reducing reducer_rebased_script false reducer_rebased_report

-- the script of the example "a pending update of Default is rendered together with one of Input"
abbrev pub input_with_default_script : List Step
input_with_default_script =
    step.Flush
    ∷ step.Dispatch (dispatch.Set word.Default ((codes "App", 0) ∷ []) (codes "s") (pos 1))
    ∷ step.Dispatch (dispatch.Set word.Input ((codes "App", 0) ∷ []) (codes "s") (pos 2))
    ∷ step.Flush
    ∷ []

-- what it writes
abbrev pub input_with_default_report : Text
input_with_default_report = codes "commit 1 Default\ncommit 2 Input+Default\nend quiet\n"

-- a pending update of Default is rendered together with one of Input
abbrev pub InputWithDefault : Type 0
InputWithDefault = Writes appending input_with_default_script false input_with_default_report

-- the script of the example "seventeen transitions take sixteen lanes, and then the first again"
abbrev pub lanes_go_round_script : List Step
lanes_go_round_script =
    step.Flush
    ∷ step.Dispatch (dispatch.Set word.Transition ((codes "App", 0) ∷ []) (codes "s") (pos 1))
    ∷ step.Flush
    ∷ step.Dispatch (dispatch.Set word.Transition ((codes "App", 0) ∷ []) (codes "s") (pos 1))
    ∷ step.Flush
    ∷ step.Dispatch (dispatch.Set word.Transition ((codes "App", 0) ∷ []) (codes "s") (pos 1))
    ∷ step.Flush
    ∷ step.Dispatch (dispatch.Set word.Transition ((codes "App", 0) ∷ []) (codes "s") (pos 1))
    ∷ step.Flush
    ∷ step.Dispatch (dispatch.Set word.Transition ((codes "App", 0) ∷ []) (codes "s") (pos 1))
    ∷ step.Flush
    ∷ step.Dispatch (dispatch.Set word.Transition ((codes "App", 0) ∷ []) (codes "s") (pos 1))
    ∷ step.Flush
    ∷ step.Dispatch (dispatch.Set word.Transition ((codes "App", 0) ∷ []) (codes "s") (pos 1))
    ∷ step.Flush
    ∷ step.Dispatch (dispatch.Set word.Transition ((codes "App", 0) ∷ []) (codes "s") (pos 1))
    ∷ step.Flush
    ∷ step.Dispatch (dispatch.Set word.Transition ((codes "App", 0) ∷ []) (codes "s") (pos 1))
    ∷ step.Flush
    ∷ step.Dispatch (dispatch.Set word.Transition ((codes "App", 0) ∷ []) (codes "s") (pos 1))
    ∷ step.Flush
    ∷ step.Dispatch (dispatch.Set word.Transition ((codes "App", 0) ∷ []) (codes "s") (pos 1))
    ∷ step.Flush
    ∷ step.Dispatch (dispatch.Set word.Transition ((codes "App", 0) ∷ []) (codes "s") (pos 1))
    ∷ step.Flush
    ∷ step.Dispatch (dispatch.Set word.Transition ((codes "App", 0) ∷ []) (codes "s") (pos 1))
    ∷ step.Flush
    ∷ step.Dispatch (dispatch.Set word.Transition ((codes "App", 0) ∷ []) (codes "s") (pos 1))
    ∷ step.Flush
    ∷ step.Dispatch (dispatch.Set word.Transition ((codes "App", 0) ∷ []) (codes "s") (pos 1))
    ∷ step.Flush
    ∷ step.Dispatch (dispatch.Set word.Transition ((codes "App", 0) ∷ []) (codes "s") (pos 1))
    ∷ step.Flush
    ∷ step.Dispatch (dispatch.Set word.Transition ((codes "App", 0) ∷ []) (codes "s") (pos 1))
    ∷ step.Flush
    ∷ []

-- what it writes
abbrev pub lanes_go_round_report : Text
lanes_go_round_report = codes "commit 1 Default\ncommit 2 T1\ncommit 3 T2\ncommit 4 T3\ncommit 5 T4\ncommit 6 T5\ncommit 7 T6\ncommit 8 T7\ncommit 9 T8\ncommit 10 T9\ncommit 11 T10\ncommit 12 T11\ncommit 13 T12\ncommit 14 T13\ncommit 15 T14\ncommit 16 T15\ncommit 17 T16\ncommit 18 T1\nend quiet\n"

-- seventeen transitions take sixteen lanes, and then the first again
abbrev pub LanesGoRound : Type 0
LanesGoRound = Writes appending lanes_go_round_script false lanes_go_round_report
