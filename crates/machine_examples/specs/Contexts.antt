-- Contexts and given children (react.dev, useContext; Passing JSX as children).
use Rattle.std.specs.Prelude.{List, [], ◌∷◌, false, codes, pos}
use Rattle.rx_base.specs.Values.{Text}
use Rattle.rx_step.specs.declared.step.Step.{Step}
use Rattle.rx_step.specs.declared.step.LaneWord.TheVariants as word
use Rattle.rx_step.specs.declared.step.Dispatch.TheVariants as dispatch
use Rattle.rx_step.specs.declared.step.Step.TheVariants as step
use Rattle.machine_examples.specs.Writes.{Writes}
use Rattle.machine_examples.specs.Programs.{themes, placing_twice}

-- the script of the example "a changed value reaches its reader, and not the reader outside the provider"
abbrev pub inside_and_outside_script : List Step
inside_and_outside_script =
    step.Flush
    ∷ step.Dispatch (dispatch.Set word.Sync ((codes "App", 0) ∷ []) (codes "t") (pos 3))
    ∷ step.Flush
    ∷ step.Tree
    ∷ []

-- what it writes
abbrev pub inside_and_outside_report : Text
inside_and_outside_report = codes "commit 1 Default\ncommit 2 Sync\ntree\n  div\n    b\n      \"3\"\n    b\n      \"1\"\nend quiet\n"

-- a changed value reaches its reader, and not the reader outside the provider
abbrev pub InsideAndOutside : Type 0
InsideAndOutside = Writes themes inside_and_outside_script false inside_and_outside_report

-- the script of the example "given children that are placed twice under a provider"
abbrev pub placed_twice_script : List Step
placed_twice_script =
    step.Flush
    ∷ step.Dispatch (dispatch.Set word.Sync ((codes "App", 0) ∷ []) (codes "w") (pos 3))
    ∷ step.Flush
    ∷ step.Tree
    ∷ step.State
    ∷ []

-- what it writes
abbrev pub placed_twice_report : Text
placed_twice_report = codes "commit 1 Default\ncommit 2 Sync\ntree\n  b\n    \"3\"\n  b\n    \"3\"\nstate\n  [1] App w=3\n  [2] Box\n  [3] Leaf\n  [4] Leaf\nend quiet\n"

-- given children that are placed twice under a provider
abbrev pub PlacedTwice : Type 0
PlacedTwice = Writes placing_twice placed_twice_script false placed_twice_report
