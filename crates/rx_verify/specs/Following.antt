-- How far a report was followed, and what is left.
use Rattle.std.specs.Prelude.{◌≡◌, ◌⊎◌, ℕ, ◌+◌, ◌≤◌, List, [], ◌∷◌, ◌++◌, Option, Some, length, take}
use Rattle.rx_ast.specs.Syntax.{Program}
use Rattle.rx_step.specs.declared.step.Step.{Step}
use Rattle.rx_given.specs.declared.passing.Place.{Place}
use Rattle.rx_given.specs.Lines.{ends_in}
use Rattle.rx_model.specs.Machine.{FlushWithin, StepTo}
use Rattle.rx_model.specs.State.{State}
use Rattle.rx_model.specs.Stretch.{Stretch, followed_by, silent}
use Rattle.rx_model.specs.Turns.{AnyRender, Turn}
use Rattle.choice_laws.specs.Choosing.{IsAmong}
use Rattle.choice_laws.specs.Telling.{bytes_from_here}
use Rattle.rx_verify.specs.Verdicts.{IsReported, first_lines}

-- What is left of a run at some moment: nothing but the last line; a step, and more; turns that aren't sliced until nothing is left to render, so many at most, and more; or a turn with this budget, and more.
pub data Left : Type 0 where
  over : Left
  takes : Step → Left → Left
  flushes : (limit : ℕ) → Left → Left
  turns : (budget : Option ℕ) → Left → Left

-- the steps of a script are left
abbrev pub all_of : List Step → Left
all_of [] = over
all_of (x ∷ xs) = takes x (all_of xs)

-- a stretch is one of these, and then one of those from where it ends
abbrev pub Then : (Stretch → Type 0) → (State → Stretch → Type 0) → Stretch → Type 0
Then First Rest r = (first rest : Stretch) × First first × Rest first.after rest × (r ≡ followed_by first rest)

-- from a state, this stretch may be what is left
abbrev pub Leads : Program → Left → State → Stretch → Type 0
Leads p over s r = r ≡ silent s
Leads p (takes x left) s r = Then (StepTo AnyRender p s x) (Leads p left) r
Leads p (flushes n left) s r = Then (FlushWithin AnyRender n p s) (Leads p left) r
Leads p (turns budget left) s r = Then (Turn AnyRender p s budget) (Leads p left) r

-- another report has the next line too, behind so many of a report, or is the same
abbrev pub Agrees : List ℕ → (lines : ℕ) → List ℕ → Type 0
Agrees bytes k other = (other ≡ bytes) ⊎ ((front : List ℕ) × (first_lines (k + 1) bytes ≡ Some front) × (rest : List ℕ) × (other ≡ front ++ rest))

-- a place in a report: so many of its bytes, in which so many lines end
pub record IsPlace (bytes : List ℕ) (place : Place) : Type 0 where
  pub inside : place.bytes ≤ length bytes
  pub lines : place.lines ≡ ends_in (take place.bytes bytes)

-- a way on from a state, or from one that is the same but for bodies
pub record Way (p : Program) (left : Left) (s : State) : Type 0 where
  pub from : State
  pub among : IsAmong s from
  pub stretch : Stretch
  pub leads : Leads p left from stretch

-- A report is followed up to a place, where a run is at this state, with so much left. The bytes up to there and those of what may be left are the report of a run; each report of a run that has the next line too is one of these; and there is one. How many bodies the render in progress has evaluated by then can not be known.
pub record IsFollowed (p : Program) (steps : List Step) (bytes : List ℕ) (place : Place) (left : Left) (s : State) : Type 0 where
  pub comes : (w : Way p left s) → IsReported p steps (take place.bytes bytes ++ bytes_from_here w.stretch)
  pub only : (other : List ℕ) → IsReported p steps other → Agrees bytes place.lines other → (w : Way p left s) × (other ≡ take place.bytes bytes ++ bytes_from_here w.stretch)
  pub goes : Way p left s
