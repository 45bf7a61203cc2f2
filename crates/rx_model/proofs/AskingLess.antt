-- What is asked of renders can be made less.
use Rattle.std.proofs.Common.{ℕ, zero, suc, Bool, true, false, List, [], ◌∷◌, Option, Some, None}
use Rattle.rx_lane.specs.declared.lane.Lane.TheVariants as lane
use Rattle.rx_lane.specs.Lanes.{has}
use Rattle.rx_ast.specs.Syntax.{Program}
use Rattle.rx_step.specs.declared.step.Step.{Step}
use Rattle.rx_step.specs.declared.step.Step.TheVariants as step
use Rattle.rx_sched.specs.declared.choice.Choice.{Choice}
use Rattle.rx_sched.specs.declared.choice.Choice.TheVariants as choice
use Rattle.rx_model.specs.State.{State, Progress}
use Rattle.rx_model.specs.Stretch.{Stretch}
use Rattle.rx_model.specs.Accepting.{between_events}
use Rattle.rx_model.specs.Committing.{passive_run, starting}
use Rattle.rx_model.specs.Turns.{OfRender, AnyRender, Continues, TurnBy, Turn, choice_of}
use Rattle.rx_model.specs.Machine.{Ending, IsAtRest, Flushes, FlushSync, StepTo, RunTo}

-- the first asks no more of a render than the second
abbrev pub AsksNoMore : (Less More : OfRender) → Program → Type 0
AsksNoMore Less More p = (s : State) (g : Progress) (r : Stretch) → More p s g r → Less p s g r

module _ (Less More : OfRender) (p : Program) (less : AsksNoMore Less More p) where
  continues-less : (s : State) (x : Option Progress) (budget : Option ℕ) (r : Stretch) → Continues More p s x budget r → Continues Less p s x budget r
  continues-less s None budget r h = h
  continues-less s (Some g) budget r h = (h.0, less s g r h.1)

  turn-by-less : (s : State) (c : Choice) (budget : Option ℕ) (r : Stretch) → TurnBy More p s c budget r → TurnBy Less p s c budget r
  turn-by-less s choice.None budget r h = h
  turn-by-less s choice.Keep budget r h = continues-less s s.progress budget r h
  turn-by-less s (choice.Start lanes) budget r h =
      record { rest = h.rest; begins = (h.begins.0, less (passive_run s).after (starting s lanes) h.rest h.begins.1); stretch_is = h.stretch_is }

  -- a turn stays one if no more is asked of its render
  pub turn-less : (s : State) (budget : Option ℕ) (r : Stretch) → Turn More p s budget r → Turn Less p s budget r
  turn-less s budget r h = turn-by-less s (choice_of s) budget r h

  -- so does a row of turns, whatever it ends in
  pub flushes-less : (End : Ending) (n : ℕ) (s : State) (r : Stretch) → Flushes More End n p s r → Flushes Less End n p s r
  flushes-less End zero s r h = h
  flushes-less End (suc n) s r h = (h.0, h.1, h.2, turn-less s None h.1 h.3, flushes-less End n h.1.after h.2 h.4, h.5)

  sync-less : (b : Bool) (s : State) (r : Stretch) → FlushSync More b p s r → FlushSync Less b p s r
  sync-less true s r h = turn-less s None r h
  sync-less false s r h = h

  -- so does a step
  pub step-less : (s : State) (x : Step) (r : Stretch) → StepTo More p s x r → StepTo Less p s x r
  step-less s (step.Dispatch d) r h = h
  step-less s (step.Resolve name x) r h = h
  step-less s (step.Tick n) r h = h
  step-less s (step.Work n) r h = turn-less (between_events s) (Some n) r h
  step-less s step.Flush r h = (h.0, h.1, flushes-less IsAtRest h.0 (between_events s) r h.2)
  step-less s step.FlushSync r h = sync-less (has s.schedule.pending lane.Sync) (between_events s) r h
  step-less s step.Passive r h = h
  step-less s step.Event r h = h
  step-less s step.State r h = h
  step-less s step.Tree r h = h

  -- and so does a run
  pub run-less : (s : State) (steps : List Step) (r : Stretch) → RunTo More p s steps r → RunTo Less p s steps r
  run-less s [] r h = h
  run-less s (x ∷ xs) r h = (h.0, h.1, step-less s x h.0 h.2, run-less h.0.after xs h.1 h.3, h.4)

-- So a turn, a row of turns, a step and a run of which something is asked are such of any renders.
pub any-turn : (Asked : OfRender) (p : Program) (s : State) (budget : Option ℕ) (r : Stretch) → Turn Asked p s budget r → Turn AnyRender p s budget r
any-turn Asked p = turn-less AnyRender Asked p (λ s g r h. tt)

pub any-flushes : (Asked : OfRender) (p : Program) (End : Ending) (n : ℕ) (s : State) (r : Stretch) → Flushes Asked End n p s r → Flushes AnyRender End n p s r
any-flushes Asked p = flushes-less AnyRender Asked p (λ s g r h. tt)

pub any-step : (Asked : OfRender) (p : Program) (s : State) (x : Step) (r : Stretch) → StepTo Asked p s x r → StepTo AnyRender p s x r
any-step Asked p = step-less AnyRender Asked p (λ s g r h. tt)

pub any-run : (Asked : OfRender) (p : Program) (s : State) (steps : List Step) (r : Stretch) → RunTo Asked p s steps r → RunTo AnyRender p s steps r
any-run Asked p = run-less AnyRender Asked p (λ s g r h. tt)
