-- The plain machine, while a report is followed.
use Rattle.std.specs.Prelude.{◌≡◌, ◌⊎◌, ℕ, ◌+◌, ◌≤◌, ◌++◌, Bool, true, false, List, Option, Some, None, take}
use Rattle.rx_ast.specs.Syntax.{Program}
use Rattle.rx_step.specs.declared.step.Step.{Step}
use Rattle.rx_sched.specs.Events.{no_event}
use Rattle.rx_lines.specs.Lines.{report_bytes}
use Rattle.rx_given.specs.declared.passing.Place.{Place}
use Rattle.rx_model.specs.Laws.{IsReached}
use Rattle.rx_model.specs.State.{Progress, State}
use Rattle.rx_model.specs.Stretch.{Stretch}
use Rattle.rx_model.specs.Turns.{AnyRender, GoesOn, choice_of}
use Rattle.choice_laws.specs.Choosing.{Render, render_by}
use Rattle.choice_laws.specs.Telling.{counted}
use Rattle.rx_plain.specs.Plained.{Plained}
use Rattle.rx_plain.specs.Stands.{StandsFor, StandsWith}
use Rattle.rx_verify.specs.declared.verdict.Verdict.TheVariants.{No}
use Rattle.rx_verify.specs.Following.{IsFollowed, Left, all_of, turns}
use Rattle.rx_verify.specs.Verdicts.{IsVerdict}

-- it stands for some state between two events
pub record StandsBetween (p : Program) (v : Plained) : Type 0 where
  pub state : State
  pub stands : StandsFor p state v
  pub between : state.event ≡ no_event

-- each stretch in which a render goes on ends in a state that a run comes to
abbrev pub LeadsOn : Program → State → Progress → (budget : Option ℕ) → Type 0
LeadsOn p s g budget = (r : Stretch) → GoesOn AnyRender p s g budget r → IsReached p r.after

-- it stands for some state with a render that goes on in its turn
pub record StandsInTurn (p : Program) (budget : Option ℕ) (v : Plained) : Type 0 where
  pub state : State
  pub progress : Progress
  pub stands : StandsWith p state (Some progress) v
  pub between : state.event ≡ no_event
  pub leads : LeadsOn p state progress budget

-- it stands for a state at which a report is followed
pub record Follows (p : Program) (steps : List Step) (bytes : List ℕ) (place : Place) (left : Left) (v : Plained) : Type 0 where
  pub state : State
  pub stands : StandsFor p state v
  pub followed : IsFollowed p steps bytes place left state

-- the same, between two events
pub record FollowsBetween (p : Program) (steps : List Step) (bytes : List ℕ) (place : Place) (left : Left) (v : Plained) : Type 0 where
  pub at : StandsBetween p v
  pub followed : IsFollowed p steps bytes place left at.state

-- In a turn, a report is followed up to where the turn begins, and has the lines of the passive effects that run first; the machine stands for the state in which the render of the turn goes on.
pub record FollowsRender (p : Program) (steps : List Step) (bytes : List ℕ) (place : Place) (budget : Option ℕ) (left : Left) (v : Plained) : Type 0 where
  pub start : Place
  pub before : State
  pub followed : IsFollowed p steps bytes start (turns budget left) before
  pub render : Render
  pub goes_on : render_by before (choice_of before) ≡ Some render
  pub stands : StandsWith p render.state (Some render.progress) v
  pub between : render.state.event ≡ no_event
  pub leads : LeadsOn p render.state render.progress budget
  pub passed : take place.bytes bytes ≡ take start.bytes bytes ++ report_bytes counted render.first
  pub later : start.lines ≤ place.lines

-- a turn that isn't sliced, or one behind which steps are left
abbrev pub CanFollow : (budget : Option ℕ) → Left → Type 0
CanFollow budget left = (budget ≡ None) ⊎ ((xs : List Step) × (left ≡ all_of xs))

-- If what was passed of a report agrees, it is followed on. Else it is the report of no run, and the first line that none has is the next one.
abbrev pub Judges : Program → List Step → List ℕ → Place → (Next : Type 0) → (agrees : Bool) → Type 0
Judges p steps bytes place Next true = Next
Judges p steps bytes place Next false = IsVerdict p steps bytes (No (place.lines + 1))
