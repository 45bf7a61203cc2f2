-- The state after a turn is one that a run comes to.
use Rattle.rx_sched.specs.declared.event.Event.{Event}
use Rattle.rx_sched.specs.Events.{no_event}
use Rattle.std.proofs.Common.{◌≡◌, inl, inr, ℕ, ◌+◌, ◌≤◌, Bool, true, false, cond, refl, sym, ap, ◌∙◌, subst, arith, Option, Some, None}
use Rattle.std.specs.Prelude.{IfSome}
use Rattle.rx_lane.specs.declared.lane.Lane.TheVariants as lane
use Rattle.rx_lane.specs.Lanes.{has}
use Rattle.rx_ast.specs.Syntax.{Program}
use Rattle.rx_step.specs.declared.step.Step.TheVariants as step
use Rattle.rx_sched.specs.declared.choice.Choice.{Choice}
use Rattle.rx_sched.specs.declared.choice.Choice.TheVariants as choice
use Rattle.rx_sched.specs.Schedule.{is_sliced}
use Rattle.rx_elem.specs.Numbers.{numbered}
use Rattle.rx_meaning.specs.Outcome.{Outcome, commit, defer, outcome}
use Rattle.rx_lines.specs.Lines.{Counts}
use Rattle.rx_model.specs.State.{State, Progress}
use Rattle.rx_model.specs.Stretch.{Stretch, silent}
use Rattle.rx_model.specs.Accepting.{between_events}
use Rattle.rx_model.specs.Committing.{passive_run, starting, committed_state, ended_by}
use Rattle.rx_model.specs.Turns.{AnyRender, OfRender, unit_bound, Finishes, GoesOn, Continues, TurnBy, Turn, choice_of}
use Rattle.rx_model.specs.Laws.{IsReached}
use Rattle.rx_model.proofs.AskingLess.{any-turn}
use Rattle.rx_model.proofs.Reached.{step-reached}

-- a render that is finished at once is finished in a slice of so many units as a render takes at most
finishes_within : (p : Program) (s : State) (g : Progress) (slice : Option ℕ) (r : Stretch) → IfSome slice (λ n. unit_bound p ≤ n) → Finishes p s g None r → Finishes p s g slice r
finishes_within p s g slice r fits f =
    record {
      counts = f.counts;
      more_units = f.more_units;
      in_bound = f.in_bound;
      in_slice = within slice fits;
      bodies_kept = f.bodies_kept;
      fewer_bodies = f.fewer_bodies;
      one_a_unit = f.one_a_unit;
      tree = f.tree;
      rendered = f.rendered;
      stretch_is = f.stretch_is;
    }
  where
    within : (x : Option ℕ) → IfSome x (λ n. unit_bound p ≤ n) → IfSome x (λ n. f.counts.units ≤ g.units + n)
    within None h = tt
    within (Some n) h = omega (arith, h, f.in_bound)

-- so a turn without a budget is one with a budget that no render uses up
goes_within : (p : Program) (s : State) (g : Progress) (r : Stretch) → GoesOn AnyRender p s g None r → GoesOn AnyRender p s g (Some (unit_bound p)) r
goes_within p s g r (inl f, asked) = (inl (by_test (is_sliced s.schedule g.lanes s.now)), tt)
  where
    by_test : (b : Bool) → Finishes p s g (cond b (Some (unit_bound p)) None) r
    by_test true = finishes_within p s g (Some (unit_bound p)) r (omega arith) f
    by_test false = f
goes_within p s g r (inr y, asked) = absurd (let e : None ≡ Some y.budget = y.sliced in cc)

continues_within : (p : Program) (s : State) (x : Option Progress) (r : Stretch) → Continues AnyRender p s x None r → Continues AnyRender p s x (Some (unit_bound p)) r
continues_within p s None r h = h
continues_within p s (Some g) r h = goes_within p s g r h

turn_within : (p : Program) (s : State) (c : Choice) (r : Stretch) → TurnBy AnyRender p s c None r → TurnBy AnyRender p s c (Some (unit_bound p)) r
turn_within p s choice.None r h = h
turn_within p s choice.Keep r h = continues_within p s s.progress r h
turn_within p s (choice.Start lanes) r h =
    record { rest = h.rest; begins = goes_within p (passive_run s).after (starting s lanes) h.rest h.begins; stretch_is = h.stretch_is }

-- a state between two events
pub same_between : (s : State) → s.event ≡ no_event → s ≡ between_events s
same_between s h = ap (λ (e : Event). record s { event = e }) h

work_reached : (p : Program) (s : State) (budget : Option ℕ) (r : Stretch) → IsReached p s → Turn AnyRender p (between_events s) budget r → IsReached p r.after
work_reached p s (Some n) r h t = step-reached p s (step.Work n) r h t
work_reached p s None r h t =
    step-reached p s (step.Work (unit_bound p)) r h (turn_within p (between_events s) (choice_of (between_events s)) r t)

-- the state after a turn is one that a run comes to, if the state before is
pub reached_turn : (A : OfRender) (p : Program) (s : State) (budget : Option ℕ) (r : Stretch) → IsReached p s → s.event ≡ no_event → Turn A p s budget r → IsReached p r.after
reached_turn A p s budget r h none t = work_reached p s budget r h (subst (λ (u : State). Turn AnyRender p u budget r) (same_between s none) (any-turn A p s budget r t))

-- and so is the state after the pending passive effects ran
pub reached_passive : (p : Program) (s : State) → IsReached p s → s.event ≡ no_event → IsReached p (passive_run s).after
reached_passive p s h none =
    subst (λ (u : State). IsReached p (passive_run u).after) (sym (same_between s none))
    (step-reached p s step.Passive (passive_run (between_events s)) h refl)

-- No turn changes which event goes on

sync_event : (b : Bool) (s : State) → (cond b (passive_run s) (silent s)).after.event ≡ s.event
sync_event true s = refl
sync_event false s = refl

ended_event : (s : State) (g : Progress) (counts : Counts) (o : Outcome) → (ended_by s g counts o).after.event ≡ s.event
ended_event s g counts (commit new) = sync_event (has g.lanes lane.Sync) (committed_state s g (numbered s.numbers new))
ended_event s g counts (defer waits) = refl

goes_event : (A : OfRender) (p : Program) (s : State) (g : Progress) (budget : Option ℕ) (r : Stretch) → GoesOn A p s g budget r → r.after.event ≡ s.event
goes_event A p s g budget r (inl f, asked) = ap (λ (x : Stretch). x.after.event) f.stretch_is ∙ ended_event s g f.counts (outcome g.lanes s.tree f.tree)
goes_event A p s g budget r (inr y, asked) = ap (λ (x : Stretch). x.after.event) y.stretch_is

continues_event : (A : OfRender) (p : Program) (s : State) (x : Option Progress) (budget : Option ℕ) (r : Stretch) → Continues A p s x budget r → r.after.event ≡ s.event
continues_event A p s None budget r h = absurd h
continues_event A p s (Some g) budget r h = goes_event A p s g budget r h

turn_event_by : (A : OfRender) (p : Program) (s : State) (c : Choice) (budget : Option ℕ) (r : Stretch) → TurnBy A p s c budget r → r.after.event ≡ s.event
turn_event_by A p s choice.None budget r h = ap (λ (x : Stretch). x.after.event) h
turn_event_by A p s choice.Keep budget r h = continues_event A p s s.progress budget r h
turn_event_by A p s (choice.Start lanes) budget r h =
    ap (λ (x : Stretch). x.after.event) h.stretch_is ∙ goes_event A p (passive_run s).after (starting s lanes) budget h.rest h.begins

-- a turn between two events ends between two events
pub turn_event : (A : OfRender) (p : Program) (s : State) (budget : Option ℕ) (r : Stretch) → s.event ≡ no_event → Turn A p s budget r → r.after.event ≡ no_event
turn_event A p s budget r none t = turn_event_by A p s (choice_of s) budget r t ∙ none
