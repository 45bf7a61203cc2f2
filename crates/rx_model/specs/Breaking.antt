-- What the machine has done of a step, or of a script, if memory runs out within it.
use Rattle.std.specs.Prelude.{◌≡◌, ◌≢◌, ◌⊎◌, ℕ, ◌<◌, ◌≤◌, List, ◌∷◌, ◌++◌, true, is_some, IsTrue}
use Rattle.rx_lane.specs.declared.lane.Lane.TheVariants as lane
use Rattle.rx_lane.specs.Lanes.{Lanes, has}
use Rattle.rx_ast.specs.Syntax.{Program}
use Rattle.rx_rules.specs.Names.{resource_number}
use Rattle.rx_sched.specs.declared.choice.Choice.TheVariants as choice
use Rattle.rx_step.specs.declared.step.Step.{Step}
use Rattle.rx_step.specs.declared.step.Step.TheVariants as step
use Rattle.rx_model.specs.State.{State}
use Rattle.rx_model.specs.Stretch.{Stretch, silent, followed_by}
use Rattle.rx_model.specs.Accepting.{between_events, last_value}
use Rattle.rx_model.specs.Committing.{passive_run}
use Rattle.rx_model.specs.Turns.{OfRender, choice_of, unit_bound}
use Rattle.rx_model.specs.Machine.{Flushes, RunTo, flush_limit}
use Rattle.rx_model.specs.Laws.{without_render}

-- So much of a turn is done: nothing; or, if a render was to start, the pending passive effects have run.
abbrev pub HasBegun : State → Stretch → Type 0
HasBegun s r = (r ≡ silent s) ⊎ ((lanes : Lanes) × (choice_of s ≡ choice.Start lanes) × (r ≡ passive_run s))

-- A turn that had something to render breaks off: what was done before its render stays, and the render is discarded, which has evaluated no more bodies in this turn than a whole one may take units.
pub record TurnBreaksOff (p : Program) (s : State) (r : Stretch) : Type 0 where
  pub some : choice_of s ≢ choice.None
  pub begun : Stretch
  pub has_begun : HasBegun s begun
  pub wasted : ℕ
  pub in_bound : wasted ≤ unit_bound p
  pub stretch_is : r ≡ record begun { bodies = wasted; after = without_render begun.after }

-- fewer turns than so many are taken, and the next one breaks off
abbrev pub FlushBreaksOff : OfRender → (limit : ℕ) → Program → State → Stretch → Type 0
FlushBreaksOff Asked limit p s r = (n : ℕ) × (n < limit) × Flushes Asked TurnBreaksOff n p s r

-- From a state, this stretch is what is done of a step that breaks off: of one that renders what its turns have finished, and of any other nothing. A resolution breaks off only if it is refused, since its line is to be written; time and the end of an event take no memory.
abbrev pub BreaksOff : OfRender → Program → State → Step → Stretch → Type 0
BreaksOff Asked p s (step.Dispatch d) r = r ≡ silent s
BreaksOff Asked p s (step.Resolve name x) r = IsTrue (is_some (last_value s (resource_number p name))) × (r ≡ silent s)
BreaksOff Asked p s (step.Tick n) r = ⊥
BreaksOff Asked p s (step.Work n) r = TurnBreaksOff p (between_events s) r
BreaksOff Asked p s step.Flush r = FlushBreaksOff Asked flush_limit p (between_events s) r
BreaksOff Asked p s step.FlushSync r = (has s.schedule.pending lane.Sync ≡ true) × TurnBreaksOff p (between_events s) r
BreaksOff Asked p s step.Passive r = r ≡ silent s
BreaksOff Asked p s step.Event r = ⊥
BreaksOff Asked p s step.State r = r ≡ silent s
BreaksOff Asked p s step.Tree r = r ≡ silent s

-- Some steps of a script are taken, one after another, and the next one breaks off.
pub record RunBreaksOff (Asked : OfRender) (p : Program) (s : State) (steps : List Step) (r : Stretch) : Type 0 where
  pub before : List Step
  pub broken : Step
  pub behind : List Step
  pub steps_are : steps ≡ before ++ broken ∷ behind
  pub taken : Stretch
  pub runs : RunTo Asked p s before taken
  pub last : Stretch
  pub breaks : BreaksOff Asked p taken.after broken last
  pub stretch_is : r ≡ followed_by taken last
