-- Steps that a root takes, one after another.
use Rattle.std.specs.Prelude.{ℕ, ◌≡◌, ◌+◌, ◌⊎◌, List, Option, None}
use Rattle.std.specs.Io.KnownBytes.{Appends}
use Rattle.rx_ast.specs.Syntax.{Program}
use Rattle.rx_step.specs.declared.step.Step.{Step}
use Rattle.rx_lines.specs.Lines.{Options, report_bytes}
use Rattle.rx_model.specs.State.{State, opening}
use Rattle.rx_model.specs.Stretch.{Stretch}
use Rattle.rx_model.specs.Machine.{RunTo}
use Rattle.rx_root.specs.Paying.{Pays}
use Rattle.rx_root.specs.Rooted.{Rooted}
use Rattle.rx_root.specs.Stands.{Stands}
use Rattle.rx_top.specs.Outcome.{Writes, plain, summary_of}
use Rattle.rx_top.specs.Reports.{BreaksOffAt}

-- all lines of a run of these steps were written, so many bodies were counted, and the root stands for the state after it
pub record WritesRun (p : Program) (o : Options) (s : State) (steps : List Step) (old new : Option (List ℕ)) (used_old used_new : ℕ) (root : Rooted) : Type 0 where
  pub taken : Stretch
  pub runs : RunTo Pays p s steps taken
  pub stands : Stands p taken.after root
  pub written : Appends old new (report_bytes o taken.lines)
  pub counted : used_new ≡ used_old + taken.bodies

-- the text sums up a run of these steps from the start, and so many bodies were counted
pub record SumsUp (p : Program) (steps : List Step) (rounds : ℕ) (text : List ℕ) (used_old used_new : ℕ) : Type 0 where
  pub whole : Stretch
  pub runs : RunTo Pays p opening steps whole
  pub text_is : text ≡ summary_of rounds whole.after
  pub counted : used_new ≡ used_old + whole.bodies

-- memory ran out before a run of these steps, and no body was counted; or in it, and those of the steps that were taken were
abbrev pub CountsShort : Program → List Step → (used_old used_new : ℕ) → Type 0
CountsShort p steps used_old used_new = (used_new ≡ used_old) ⊎ Writes None None used_old used_new (BreaksOffAt p steps plain)
