-- Mounting, unmounting and the values of expressions (react.dev, Preserving and Resetting State).
use Rattle.std.specs.Prelude.{List, [], ◌∷◌, false, codes, pos}
use Rattle.rx_base.specs.Values.{Text}
use Rattle.rx_step.specs.declared.step.Step.{Step}
use Rattle.rx_step.specs.declared.step.LaneWord.TheVariants as word
use Rattle.rx_step.specs.declared.step.Dispatch.TheVariants as dispatch
use Rattle.rx_step.specs.declared.step.Step.TheVariants as step
use Rattle.machine_examples.specs.Writes.{Writes}
use Rattle.machine_examples.specs.Programs.{two_counters, switch, sums}

-- the script of the example "without a script nothing is rendered"
abbrev pub no_script_script : List Step
no_script_script =
    []

-- what it writes
abbrev pub no_script_report : Text
no_script_report = codes "end pending Default suspended 0\n"

-- without a script nothing is rendered
abbrev pub NoScript : Type 0
NoScript = Writes two_counters no_script_script false no_script_report

-- the script of the example "two counters mount and one of them is set"
abbrev pub mount_and_set_script : List Step
mount_and_set_script =
    step.Flush
    ∷ step.Dispatch (dispatch.Set word.Sync ((codes "App", 0) ∷ (codes "Counter", 1) ∷ []) (codes "n") (pos 7))
    ∷ step.Flush
    ∷ step.Tree
    ∷ step.State
    ∷ []

-- what it writes
abbrev pub mount_and_set_report : Text
mount_and_set_report = codes "commit 1 Default\ncommit 2 Sync\ntree\n  div\n    p\n      \"1\"\n    p\n      \"7\"\nstate\n  [1] App\n  [2] Counter n=1\n  [3] Counter n=7\nend quiet\n"

-- two counters mount and one of them is set
abbrev pub MountAndSet : Type 0
MountAndSet = Writes two_counters mount_and_set_script false mount_and_set_report

-- the script of the example "a component that comes back is a new instance with a new number"
abbrev pub remount_script : List Step
remount_script =
    step.Flush
    ∷ step.Dispatch (dispatch.Set word.Sync ((codes "App", 0) ∷ (codes "A", 0) ∷ []) (codes "n") (pos 5))
    ∷ step.Dispatch (dispatch.Set word.Sync ((codes "App", 0) ∷ []) (codes "c") (pos 0))
    ∷ step.Flush
    ∷ step.Dispatch (dispatch.Set word.Sync ((codes "App", 0) ∷ []) (codes "c") (pos 1))
    ∷ step.Flush
    ∷ step.State
    ∷ []

-- what it writes
abbrev pub remount_report : Text
remount_report = codes "commit 1 Default\ncommit 2 Sync\ncommit 3 Sync\nstate\n  [1] App c=1\n  [4] A n=0\nend quiet\n"

-- a component that comes back is a new instance with a new number
abbrev pub Remount : Type 0
Remount = Writes switch remount_script false remount_report

-- the script of the example "an update of an instance that is gone has no effect, but its lane is rendered; a path that is gone is told"
abbrev pub unmounted_script : List Step
unmounted_script =
    step.Flush
    ∷ step.Dispatch (dispatch.Set word.Default ((codes "App", 0) ∷ (codes "A", 0) ∷ []) (codes "n") (pos 5))
    ∷ step.Dispatch (dispatch.Set word.Sync ((codes "App", 0) ∷ []) (codes "c") (pos 0))
    ∷ step.Flush
    ∷ step.Dispatch (dispatch.Set word.Sync ((codes "App", 0) ∷ (codes "A", 0) ∷ []) (codes "n") (pos 6))
    ∷ []

-- what it writes
abbrev pub unmounted_report : Text
unmounted_report = codes "commit 1 Default\ncommit 2 Sync\ncommit 3 Default\nno-instance App/A\nend quiet\n"

-- an update of an instance that is gone has no effect, but its lane is rendered; a path that is gone is told
abbrev pub Unmounted : Type 0
Unmounted = Writes switch unmounted_script false unmounted_report

-- the script of the example "division by zero, signs of remainders, and sums that wrap"
abbrev pub wrapping_script : List Step
wrapping_script =
    step.Flush
    ∷ step.Tree
    ∷ []

-- what it writes
abbrev pub wrapping_report : Text
wrapping_report = codes "commit 1 Default\ntree\n  p\n    \"-2147483648\"\n    \"0\"\n    \"-1\"\n    \"-2147483648\"\nend quiet\n"

-- division by zero, signs of remainders, and sums that wrap
abbrev pub Wrapping : Type 0
Wrapping = Writes sums wrapping_script false wrapping_report
