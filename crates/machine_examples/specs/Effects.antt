-- Effects, in their order (react.dev, useEffect and useLayoutEffect).
use Rattle.std.specs.Prelude.{List, [], ◌∷◌, false, codes, pos}
use Rattle.rx_base.specs.Values.{Text}
use Rattle.rx_step.specs.declared.step.Step.{Step}
use Rattle.rx_step.specs.declared.step.LaneWord.TheVariants as word
use Rattle.rx_step.specs.declared.step.Dispatch.TheVariants as dispatch
use Rattle.rx_step.specs.declared.step.Step.TheVariants as step
use Rattle.machine_examples.specs.Writes.{Writes}
use Rattle.machine_examples.specs.Programs.{effects_of_kids}

-- the script of the example "the effects of a change and a removal"
abbrev pub change_and_removal_script : List Step
change_and_removal_script =
    step.Flush
    ∷ step.Dispatch (dispatch.Set word.Default ((codes "App", 0) ∷ []) (codes "v") (pos 1))
    ∷ step.Dispatch (dispatch.Set word.Default ((codes "App", 0) ∷ []) (codes "g") (pos 0))
    ∷ step.Flush
    ∷ step.Passive
    ∷ []

-- what it writes
abbrev pub change_and_removal_report : Text
change_and_removal_report = codes "commit 1 Default\nlayout + [2] \"kl\" 0\nlayout + [3] \"kl\" 9\nlayout + [1] \"al\" 0\npassive + [2] \"kp\" 0\npassive + [3] \"kp\" 9\npassive + [1] \"ap\" 0\ncommit 2 Default\nlayout - [3] \"kl\" 9\nlayout - [2] \"kl\" 0\nlayout - [1] \"al\" 0\nlayout + [2] \"kl\" 1\nlayout + [1] \"al\" 1\npassive - [3] \"kp\" 9\npassive - [2] \"kp\" 0\npassive - [1] \"ap\" 0\npassive + [2] \"kp\" 1\npassive + [1] \"ap\" 1\nend quiet\n"

-- the effects of a change and a removal
abbrev pub ChangeAndRemoval : Type 0
ChangeAndRemoval = Writes effects_of_kids change_and_removal_script false change_and_removal_report

-- the script of the example "a commit with Sync runs its passive effects at its end"
abbrev pub sync_runs_passive_script : List Step
sync_runs_passive_script =
    step.Flush
    ∷ step.Dispatch (dispatch.Set word.Sync ((codes "App", 0) ∷ []) (codes "v") (pos 1))
    ∷ step.Flush
    ∷ []

-- what it writes
abbrev pub sync_runs_passive_report : Text
sync_runs_passive_report = codes "commit 1 Default\nlayout + [2] \"kl\" 0\nlayout + [3] \"kl\" 9\nlayout + [1] \"al\" 0\npassive + [2] \"kp\" 0\npassive + [3] \"kp\" 9\npassive + [1] \"ap\" 0\ncommit 2 Sync\nlayout - [2] \"kl\" 0\nlayout - [1] \"al\" 0\nlayout + [2] \"kl\" 1\nlayout + [1] \"al\" 1\npassive - [2] \"kp\" 0\npassive - [1] \"ap\" 0\npassive + [2] \"kp\" 1\npassive + [1] \"ap\" 1\nend quiet\n"

-- a commit with Sync runs its passive effects at its end
abbrev pub SyncRunsPassive : Type 0
SyncRunsPassive = Writes effects_of_kids sync_runs_passive_script false sync_runs_passive_report

-- the script of the example "a render of Default is not sliced; the effects of a change and a removal"
abbrev pub default_is_not_sliced_script : List Step
default_is_not_sliced_script =
    step.Work 1
    ∷ step.Dispatch (dispatch.Set word.Default ((codes "App", 0) ∷ []) (codes "v") (pos 1))
    ∷ step.Dispatch (dispatch.Set word.Default ((codes "App", 0) ∷ []) (codes "g") (pos 0))
    ∷ step.Work 1
    ∷ step.Passive
    ∷ []

-- what it writes
abbrev pub default_is_not_sliced_report : Text
default_is_not_sliced_report = codes "commit 1 Default\nlayout + [2] \"kl\" 0\nlayout + [3] \"kl\" 9\nlayout + [1] \"al\" 0\npassive + [2] \"kp\" 0\npassive + [3] \"kp\" 9\npassive + [1] \"ap\" 0\ncommit 2 Default\nlayout - [3] \"kl\" 9\nlayout - [2] \"kl\" 0\nlayout - [1] \"al\" 0\nlayout + [2] \"kl\" 1\nlayout + [1] \"al\" 1\npassive - [3] \"kp\" 9\npassive - [2] \"kp\" 0\npassive - [1] \"ap\" 0\npassive + [2] \"kp\" 1\npassive + [1] \"ap\" 1\nend quiet\n"

-- a render of Default is not sliced; the effects of a change and a removal
abbrev pub DefaultIsNotSliced : Type 0
DefaultIsNotSliced = Writes effects_of_kids default_is_not_sliced_script false default_is_not_sliced_report
