-- Keys, moves and the operations on hosts (react.dev, Rendering Lists).
use Rattle.std.specs.Prelude.{List, [], ◌∷◌, true, false, codes, pos}
use Rattle.rx_base.specs.Values.{Text}
use Rattle.rx_step.specs.declared.step.Step.{Step}
use Rattle.rx_step.specs.declared.step.LaneWord.TheVariants as word
use Rattle.rx_step.specs.declared.step.Dispatch.TheVariants as dispatch
use Rattle.rx_step.specs.declared.step.Step.TheVariants as step
use Rattle.machine_examples.specs.Writes.{Writes}
use Rattle.machine_examples.specs.Programs.{attributes_of_a_host, rotating, equal_items}

-- the script of the example "a text that goes while an attribute changes"
abbrev pub attributes_script : List Step
attributes_script =
    step.Flush
    ∷ step.Dispatch (dispatch.Set word.Sync ((codes "App", 0) ∷ []) (codes "n") (pos 0))
    ∷ step.Flush
    ∷ []

-- what it writes
abbrev pub attributes_report : Text
attributes_report = codes "commit 1 Default\nop create #1 p\nop text #2 \"1\"\nop create #3 i\nop place #1 under #0 at end\nop place #2 under #1 at end\nop place #3 under #1 at end\nop attr #1 a 1\nop attr #1 b \"x\"\ncommit 2 Sync\nop remove #2\nop attr #1 a 0\nend quiet\n"

-- a text that goes while an attribute changes
abbrev pub Attributes : Type 0
Attributes = Writes attributes_of_a_host attributes_script true attributes_report

-- the script of the example "a rotated list with keys moves three of its four items"
abbrev pub rotated_script : List Step
rotated_script =
    step.Flush
    ∷ step.Dispatch (dispatch.Set word.Sync ((codes "App", 0) ∷ []) (codes "r") (pos 1))
    ∷ step.Flush
    ∷ step.Tree
    ∷ []

-- what it writes
abbrev pub rotated_report : Text
rotated_report = codes "commit 1 Default\nop create #1 ul\nop create #2 li\nop text #3 \"0\"\nop create #4 li\nop text #5 \"1\"\nop create #6 li\nop text #7 \"2\"\nop create #8 li\nop text #9 \"3\"\nop place #1 under #0 at end\nop place #2 under #1 at end\nop place #3 under #2 at end\nop place #4 under #1 at end\nop place #5 under #4 at end\nop place #6 under #1 at end\nop place #7 under #6 at end\nop place #8 under #1 at end\nop place #9 under #8 at end\ncommit 2 Sync\nop place #2 under #1 at end\nop place #4 under #1 at end\nop place #6 under #1 at end\ntree\n  ul\n    li\n      \"3\"\n    li\n      \"0\"\n    li\n      \"1\"\n    li\n      \"2\"\nend quiet\n"

-- a rotated list with keys moves three of its four items
abbrev pub Rotated : Type 0
Rotated = Writes rotating rotated_script true rotated_report

-- the script of the example "of two children with one key the first of them that is left takes the state of the first"
abbrev pub equal_keys_script : List Step
equal_keys_script =
    step.Flush
    ∷ step.Dispatch (dispatch.Set word.Sync ((codes "App", 0) ∷ []) (codes "a") (pos 0))
    ∷ step.Flush
    ∷ step.State
    ∷ []

-- what it writes
abbrev pub equal_keys_report : Text
equal_keys_report = codes "commit 1 Default\ncommit 2 Sync\nstate\n  [1] App a=0\n  [2] Item n=10\nend quiet\n"

-- of two children with one key the first of them that is left takes the state of the first
abbrev pub EqualKeys : Type 0
EqualKeys = Writes equal_items equal_keys_script false equal_keys_report
