-- Each state that can be reached can go on.
use Rattle.std.proofs.Common.{◌≡◌, inl, inr, ℕ, zero, suc, ◌<◌, ◌≤◌, Bool, true, false, List, [], ◌∷◌, refl, sym, subst, arith, Option, Some, None}
use Rattle.std.specs.Prelude.{IfSome}
use Rattle.rx_lane.specs.declared.lane.Lane.TheVariants as lane
use Rattle.rx_lane.specs.Lanes.{has}
use Rattle.rx_ast.specs.Syntax.{Program}
use Rattle.rx_rules.specs.Names.{resource_number}
use Rattle.rx_step.specs.declared.step.Step.{Step}
use Rattle.rx_step.specs.declared.step.LaneWord.{LaneWord}
use Rattle.rx_step.specs.Steps.{Path}
use Rattle.rx_elem.specs.Spots.{Mounted}
use Rattle.rx_queue.specs.Journal.{hook, resource}
use Rattle.rx_queue.specs.declared.update.Op.{Op}
use Rattle.rx_queue.specs.declared.update.Op.TheVariants as op
use Rattle.rx_step.specs.declared.step.Step.TheVariants as step
use Rattle.rx_sched.specs.declared.choice.Choice.{Choice}
use Rattle.rx_sched.specs.declared.choice.Choice.TheVariants as choice
use Rattle.rx_meaning.specs.Outcome.{outcome}
use Rattle.rx_sched.specs.Events.{new_event}
use Rattle.rx_model.specs.State.{State, Progress, instance_found}
use Rattle.rx_model.specs.Stretch.{Stretch, silent, followed_by}
use Rattle.rx_model.specs.Accepting.{between_events, dispatched_for, last_value}
use Rattle.rx_model.specs.Committing.{passive_run, starting}
use Rattle.rx_model.specs.Turns.{OfRender, AnyRender, unit_bound, GoesOn, Continues, TurnBy, choice_of}
use Rattle.rx_model.specs.Machine.{IsAtRest, Flushes, FlushSync, StepTo, RunTo}
use Rattle.rx_model.specs.Kept.{CanGoOn}
use Rattle.rx_model.specs.Laws.{AppNeverWaits, DiscardsReach, IsReached, IsReachedBy, Move, MovesTo, Progresses, RunsReach, StartIsReached, begins, discards, refreshes, sends, takes}
use Rattle.rx_model.proofs.AskingLess.{any-run}
use Rattle.rx_model.proofs.Progress.{ended-can, can-passive, can-between, dispatched-can, dispatched_for-can, resolved-can, opening_can, goes_on_from}

-- a stretch that is another one ends in a state that can go on, if that does
same-can : (p : Program) (r q : Stretch) → r ≡ q → CanGoOn p q.after → CanGoOn p r.after
same-can p r q e can = subst (λ (x : Stretch). CanGoOn p x.after) (sym e) can

going-keeps : (p : Program) (s : State) (g : Progress) (budget : Option ℕ) (r : Stretch) → g.bodies ≤ g.units → GoesOn AnyRender p s g budget r → CanGoOn p s → CanGoOn p r.after
going-keeps p s g budget r few (inl f, _) can = same-can p r _ f.stretch_is (ended-can p s g f.counts (outcome g.lanes s.tree f.tree) can)
going-keeps p s g budget r few (inr y, _) can =
    same-can p r _ y.stretch_is (record { below = can.below; due = (omega (arith, few, y.one_a_unit), y.in_bound) })

turn-keeps : (p : Program) (s : State) (c : Choice) (budget : Option ℕ) (r : Stretch) → TurnBy AnyRender p s c budget r → CanGoOn p s → CanGoOn p r.after
turn-keeps p s choice.None budget r is can = same-can p r (silent s) is can
turn-keeps p s choice.Keep budget r on can = go s.progress refl on
  where
    go : (x : Option Progress) → s.progress ≡ x → Continues AnyRender p s x budget r → CanGoOn p r.after
    go None e h = absurd h
    go (Some g) e h =
        let due : (g.bodies ≤ g.units) × (g.units < unit_bound p) = subst (λ (x : Option Progress). IfSome x (λ g. (g.bodies ≤ g.units) × (g.units < unit_bound p))) e can.due in
        going-keeps p s g budget r due.0 h can
turn-keeps p s (choice.Start lanes) budget r starts can =
    same-can p r (followed_by (passive_run s) starts.rest) starts.stretch_is
    (going-keeps p (passive_run s).after (starting s lanes) budget starts.rest (omega arith) starts.begins (can-passive p s can))

flushes-keep : (n : ℕ) (p : Program) (s : State) (r : Stretch) → Flushes AnyRender IsAtRest n p s r → CanGoOn p s → CanGoOn p r.after
flushes-keep zero p s r h can = same-can p r (silent s) h.1 can
flushes-keep (suc n) p s r h can =
    same-can p r (followed_by h.1 h.2) h.5 (flushes-keep n p h.1.after h.2 h.4 (turn-keeps p s (choice_of s) None h.1 h.3 can))

sync-keeps : (b : Bool) (p : Program) (s : State) (r : Stretch) → FlushSync AnyRender b p s r → CanGoOn p s → CanGoOn p r.after
sync-keeps true p s r h can = turn-keeps p s (choice_of s) None r h can
sync-keeps false p s r h can = same-can p r (silent s) h can

step-keeps : (p : Program) (s : State) (x : Step) (r : Stretch) → StepTo AnyRender p s x r → CanGoOn p s → CanGoOn p r.after
step-keeps p s (step.Dispatch d) r h can = same-can p r _ h (dispatched-can p s d can)
step-keeps p s (step.Resolve name v) r h can =
    same-can p r _ h (resolved-can p (between_events s) name v (last_value (between_events s) (resource_number p name)) (can-between p s can))
step-keeps p s (step.Tick n) r h can = same-can p r _ h (record { below = can.below; due = can.due })
step-keeps p s (step.Work n) r h can = turn-keeps p (between_events s) (choice_of (between_events s)) (Some n) r h (can-between p s can)
step-keeps p s step.Flush r h can = flushes-keep h.0 p (between_events s) r h.2 (can-between p s can)
step-keeps p s step.FlushSync r h can = sync-keeps (has s.schedule.pending lane.Sync) p (between_events s) r h (can-between p s can)
step-keeps p s step.Passive r h can = same-can p r _ h (record { below = can.below; due = can.due })
step-keeps p s step.Event r h can = same-can p r _ h (record { below = can.below; due = can.due })
step-keeps p s step.State r h can = same-can p r _ h (record { below = can.below; due = can.due })
step-keeps p s step.Tree r h can = same-can p r _ h (record { below = can.below; due = can.due })

move-keeps : (p : Program) (s : State) (x : Move) (t : State) → MovesTo p s x t → CanGoOn p s → CanGoOn p t
move-keeps p s (takes x) t h can = subst (CanGoOn p) (sym h.2) (step-keeps p s x h.0 h.1 can)
move-keeps p s discards t h can = subst (CanGoOn p) (sym h) (record { below = can.below; due = tt })
move-keeps p s (begins started) t h can = subst (CanGoOn p) (sym h) (record { below = can.below; due = can.due })
move-keeps p s (sends w path k o) t h can = subst (CanGoOn p) (sym h.2) (dispatched_for-can p s w (hook h.0.number k) o can)
move-keeps p s (refreshes w r) t h can = subst (CanGoOn p) (sym h) (dispatched_for-can p s w (resource r) op.Refresh can)

moves-keep : (p : Program) (moves : List Move) (t : State) → IsReachedBy p moves t → CanGoOn p t
moves-keep p [] t h = subst (CanGoOn p) (sym h) (opening_can p)
moves-keep p (x ∷ before) t h = move-keeps p h.0 x t h.2 (moves-keep p before h.0 h.1)

-- each state that can be reached can go on
pub reached-can : (p : Program) (s : State) → IsReached p s → CanGoOn p s
reached-can p s h = moves-keep p h.0 s h.1

-- the start can be reached
pub start-reached : (p : Program) → StartIsReached p
start-reached p = ([], refl)

-- after a step of a state that can be reached one can be reached
pub step-reached : (p : Program) (s : State) (x : Step) (r : Stretch) → IsReached p s → StepTo AnyRender p s x r → IsReached p r.after
step-reached p s x r h step = (takes x ∷ h.0, (s, h.1, (r, step, refl)))

-- and so after each run
pub runs-reach : (p : Program) → RunsReach p
runs-reach p s h [] r run = subst (λ (q : Stretch). IsReached p q.after) (sym run) h
runs-reach p s h (x ∷ xs) r run =
    subst (λ (q : Stretch). IsReached p q.after) (sym run.4) (runs-reach p run.0.after (step-reached p s x run.0 h run.2) xs run.1 run.3)

-- whatever is asked of its renders
pub asked-runs-reach : (Asked : OfRender) (p : Program) (s : State) → IsReached p s → (steps : List Step) (r : Stretch) → RunTo Asked p s steps r → IsReached p r.after
asked-runs-reach Asked p s h steps r run = runs-reach p s h steps r (any-run Asked p s steps r run)

-- and if a render is discarded
pub discards-reach : (p : Program) → DiscardsReach p
discards-reach p s h = (discards ∷ h.0, (s, h.1, refl))

-- and if an event begins
pub begins-reach : (p : Program) (s : State) (started : Bool) → IsReached p s → IsReached p (record s { event = new_event started })
begins-reach p s started h = (begins started ∷ h.0, (s, h.1, refl))

-- if a hook is sent an update
pub sends-reach : (p : Program) (s : State) (w : LaneWord) (path : Path) (m : Mounted) (k : ℕ) (o : Op) → instance_found p s.tree path ≡ Some m → IsReached p s
    → IsReached p (dispatched_for s w (hook m.number k) o)
sends-reach p s w path m k o found h = (sends w path k o ∷ h.0, (s, h.1, (m, found, refl)))

-- and if a resource is asked for another version
pub refreshes-reach : (p : Program) (s : State) (w : LaneWord) (r : ℕ) → IsReached p s → IsReached p (dispatched_for s w (resource r) op.Refresh)
refreshes-reach p s w r h = (refreshes w r ∷ h.0, (s, h.1, refl))

-- so each list of steps has a run from there, if App never waits
pub progresses : (p : Program) → AppNeverWaits p → Progresses p
progresses p never bounded s reached steps = goes_on_from p (never bounded) s (reached-can p s reached) steps
