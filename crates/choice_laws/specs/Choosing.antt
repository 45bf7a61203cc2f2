-- What a turn may do, whatever bodies its render has evaluated.
use Rattle.std.specs.Prelude.{◌≡◌, ◌⊎◌, ℕ, ◌+◌, ◌<◌, ◌≤◌, Bool, true, false, List, [], ◌++◌, Option, Some, None, IfSome, option_map}
use Rattle.rx_ast.specs.Syntax.{Program}
use Rattle.rx_step.specs.declared.step.Step.{Step}
use Rattle.rx_step.specs.declared.step.Step.TheVariants as step
use Rattle.rx_elem.specs.Trees.{Node}
use Rattle.rx_sched.specs.declared.choice.Choice.{Choice}
use Rattle.rx_sched.specs.declared.choice.Choice.TheVariants as choice
use Rattle.rx_meaning.specs.Fresh.{fresh, made}
use Rattle.rx_lines.specs.Lines.{Counts, Line}
use Rattle.rx_model.specs.State.{State, Progress, opening}
use Rattle.rx_model.specs.Stretch.{Stretch}
use Rattle.rx_model.specs.Committing.{passive_run, starting, sight_of, ended}
use Rattle.rx_model.specs.Turns.{AnyRender, Turn, choice_of, gone_on, slice_of, unit_bound}
use Rattle.rx_model.specs.Machine.{RunTo, StepTo}

-- States but for bodies

-- a state whose render in progress, if there is one, has evaluated so many bodies
abbrev pub with_bodies : ℕ → State → State
with_bodies b s = record s { progress = option_map (λ (g : Progress). record g { bodies = b }) s.progress }

-- so many bodies are no more than the units that the render in progress has used, if there is one
abbrev pub FitInUnits : ℕ → State → Type 0
FitInUnits b s = IfSome s.progress (λ g. b ≤ g.units)

-- The second state is the first one but for the bodies of its render in progress, which are no more than its units.
abbrev pub IsAmong : State → State → Type 0
IsAmong s t = (b : ℕ) × FitInUnits b s × (t ≡ with_bodies b s)

-- Turns

-- These counts fit a render that is finished within its slice, whatever bodies it has evaluated before: it takes at least one more unit, and fewer bodies than units in all.
pub record Fit (p : Program) (g : Progress) (slice : Option ℕ) (counts : Counts) : Type 0 where
  pub more_units : g.units < counts.units
  pub in_bound : counts.units ≤ unit_bound p
  pub in_slice : IfSome slice (λ n. counts.units ≤ g.units + n)
  pub fewer_bodies : counts.bodies < counts.units

-- the render that goes on in a turn: the lines of the passive effects that run first, the state in which it goes on, and how far it is
pub record Render : Type 0 where
  pub first : List Line
  pub state : State
  pub progress : Progress

-- the render that goes on, by what is rendered next
abbrev pub render_by : State → Choice → Option Render
render_by s choice.None = None
render_by s choice.Keep = option_map (λ (g : Progress). record { first = []; state = s; progress = g }) s.progress
render_by s (choice.Start lanes) =
    Some (record { first = (passive_run s).lines; state = (passive_run s).after; progress = starting s lanes })

-- A turn writes these lines and leads to this state, as its render is finished.
pub record FinishesAs (p : Program) (x : Render) (budget : Option ℕ) (lines : List Line) (t : State) : Type 0 where
  pub counts : Counts
  pub fit : Fit p x.progress (slice_of x.state x.progress budget) counts
  pub tree : Node
  pub rendered : fresh (sight_of p x.state x.progress) x.state.tree ≡ made tree
  pub lines_are : lines ≡ x.first ++ (ended x.state x.progress counts tree).lines
  pub after_is : t ≡ (ended x.state x.progress counts tree).after

-- A turn writes these lines and leads to this state, as its render uses up its slice and stays unfinished, whatever bodies it has evaluated.
pub record YieldsAs (p : Program) (x : Render) (budget : Option ℕ) (lines : List Line) (t : State) : Type 0 where
  pub units : ℕ
  pub sliced : slice_of x.state x.progress budget ≡ Some units
  pub in_bound : x.progress.units + units < unit_bound p
  pub lines_are : lines ≡ x.first
  pub after : IsAmong (record x.state { progress = Some (gone_on x.progress units 0) }) t

-- a turn writes nothing and leaves a state as it is, whatever bodies its render has evaluated, as nothing is left to render
abbrev pub RestsAs : State → List Line → State → Type 0
RestsAs s lines t = (choice_of s ≡ choice.None) × (lines ≡ []) × IsAmong s t

-- a turn goes on with a render, which is finished or stays unfinished
abbrev pub RendersAs : Program → State → (budget : Option ℕ) → List Line → State → Type 0
RendersAs p s budget lines t = (x : Render) × (render_by s (choice_of s) ≡ Some x) × (FinishesAs p x budget lines t ⊎ YieldsAs p x budget lines t)

-- a turn may write these lines and lead to this state, whatever bodies the render in progress has evaluated before
abbrev pub MayTurn : Program → State → (budget : Option ℕ) → List Line → State → Type 0
MayTurn p s budget lines t = RestsAs s lines t ⊎ RendersAs p s budget lines t

-- what a turn may do from a state: each turn does, whatever bodies were evaluated before
abbrev pub TurnsAreFree : Program → Type 0
TurnsAreFree p = (s t : State) → IsAmong s t → (budget : Option ℕ) (r : Stretch) → Turn AnyRender p t budget r → MayTurn p s budget r.lines r.after

-- and each of it is what some turn does, if the right bodies were evaluated before
abbrev pub FreeTurnsAreTaken : Program → Type 0
FreeTurnsAreTaken p =
    (s t : State) (budget : Option ℕ) (lines : List Line) → MayTurn p s budget lines t
    → (b : ℕ) × FitInUnits b s × (r : Stretch) × Turn AnyRender p (with_bodies b s) budget r × (r.lines ≡ lines) × (r.after ≡ t)

-- Steps and runs

-- a step takes turns of rendering
abbrev pub renders : Step → Bool
renders (step.Dispatch d) = false
renders (step.Resolve name x) = false
renders (step.Tick n) = false
renders (step.Work n) = true
renders step.Flush = true
renders step.FlushSync = true
renders step.Passive = false
renders step.Event = false
renders step.State = false
renders step.Tree = false

-- a step that takes none writes the same lines from two states that are the same but for bodies, and leads to two such states
abbrev pub StepsAreAlike : Program → Type 0
StepsAreAlike p =
    (s t : State) → IsAmong s t → (x : Step) → renders x ≡ false → (r q : Stretch) → StepTo AnyRender p s x r → StepTo AnyRender p t x q
    → (q.lines ≡ r.lines) × IsAmong r.after q.after

-- A run can be changed so that its render in progress has evaluated any number of bodies that fits in its units: there is one with the same lines that ends so, from the same state but for bodies.
abbrev pub BodiesAreFree : Program → Type 0
BodiesAreFree p =
    (s : State) (steps : List Step) (r : Stretch) → RunTo AnyRender p s steps r → (b : ℕ) → FitInUnits b r.after
    → (a : ℕ) × FitInUnits a s × (q : Stretch) × RunTo AnyRender p (with_bodies a s) steps q × (q.lines ≡ r.lines) × (q.after ≡ with_bodies b r.after)

-- so can a run from the start
abbrev pub BodiesAreFreeFromStart : Program → Type 0
BodiesAreFreeFromStart p =
    (steps : List Step) (r : Stretch) → RunTo AnyRender p opening steps r → (b : ℕ) → FitInUnits b r.after
    → (q : Stretch) × RunTo AnyRender p opening steps q × (q.lines ≡ r.lines) × (q.after ≡ with_bodies b r.after)
