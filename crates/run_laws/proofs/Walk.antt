-- What turns, dispatches, resolutions and discarded renders keep holds in each state that can be reached.
use Rattle.std.specs.Prelude.{◌≡◌, ℕ, zero, suc, ℤ, pos, Bool, true, false, List, [], ◌∷◌, Option, None, Some, refl}
use Rattle.std.proofs.Common.{◌∙◌, ap, sym, subst}
use Rattle.rx_base.specs.Values.{Name}
use Rattle.rx_ast.specs.Syntax.{Program}
use Rattle.rx_rules.specs.Names.{resource_number}
use Rattle.rx_lane.specs.Lanes.{has}
use Rattle.rx_lane.specs.declared.lane.Lane.TheVariants as lane
use Rattle.rx_elem.specs.Spots.{Mounted}
use Rattle.rx_elem.specs.Trees.{Node}
use Rattle.rx_queue.specs.Journal.{Target, hook, resource}
use Rattle.rx_queue.specs.declared.update.Op.{Op}
use Rattle.rx_queue.specs.declared.update.Op.TheVariants as op
use Rattle.rx_sched.specs.Deadlines.{later}
use Rattle.rx_step.specs.Steps.{Path, path_of, start_lane}
use Rattle.rx_step.specs.declared.step.Dispatch.{Dispatch}
use Rattle.rx_step.specs.declared.step.Dispatch.TheVariants as dispatch
use Rattle.rx_step.specs.declared.step.LaneWord.{LaneWord}
use Rattle.rx_step.specs.declared.step.LaneWord.TheVariants as word
use Rattle.rx_step.specs.declared.step.Step.{Step}
use Rattle.rx_step.specs.declared.step.Step.TheVariants as step
use Rattle.rx_sched.specs.declared.event.Event.{Event}
use Rattle.rx_sched.specs.Events.{new_event, no_event}
use Rattle.rx_model.specs.State.{State, hook_number, instance_found, opening}
use Rattle.rx_model.specs.Stretch.{Stretch, followed_by, silent}
use Rattle.rx_model.specs.Accepting.{between_events, dispatched_for, dispatched_to, enqueued, event_of, last_value, resolved_as, within}
use Rattle.rx_model.specs.Committing.{passive_run}
use Rattle.rx_model.specs.Turns.{AnyRender, TurnBy, choice_of}
use Rattle.rx_model.specs.Machine.{IsAtRest, FlushSync, Flushes, StepTo}
use Rattle.rx_model.specs.Laws.{IsReached, IsReachedBy, Move, MovesTo, begins, discards, refreshes, sends, takes, without_render}

-- what a fact needs to hold all along: the start has it, and it is kept
pub record IsKeptAlong (p : Program) (Holds : State → Type 0) : Type 0 where
  pub starts : Holds opening
  pub events : (s : State) (e : Event) → Holds s → Holds (record s { event = e })
  pub ticks : (s : State) (n : ℕ) → Holds s → Holds (record (between_events s) { now = n })
  pub passive : (s : State) → Holds s → Holds (passive_run s).after
  pub turns : (s : State) (budget : Option ℕ) (r : Stretch) → TurnBy AnyRender p s (choice_of s) budget r → Holds s → Holds r.after
  pub sends : (s : State) (w : LaneWord) (path : Path) (m : Mounted) (k : ℕ) (o : Op) → instance_found p s.tree path ≡ Some m → Holds s → Holds (dispatched_for s w (hook m.number k) o)
  pub refreshes : (s : State) (w : LaneWord) (r : ℕ) → Holds s → Holds (dispatched_for s w (resource r) op.Refresh)
  pub resolves : (s : State) (name : Name) (v : ℤ) (x : Option ℤ) → last_value s (resource_number p name) ≡ x → Holds s → Holds (resolved_as p s name v x).after
  pub discards : (s : State) → Holds s → Holds (without_render s)

-- a dispatch changes no tree
pub sent_tree : (w : LaneWord) (s : State) (t : Target) (o : Op) → (dispatched_for s w t o).tree ≡ s.tree
sent_tree word.Sync s t o = refl
sent_tree word.Input s t o = refl
sent_tree word.Default s t o = refl
sent_tree word.Transition s t o = refl

-- a stretch that is another one ends in a state with this fact, if that does
pub same_after : (Holds : State → Type 0) (r q : Stretch) → r ≡ q → Holds q.after → Holds r.after
same_after Holds r q e h = subst (λ (x : Stretch). Holds x.after) (sym e) h

module _ (p : Program) (Holds : State → Type 0) (kept : IsKeptAlong p Holds) where
  flushes_keep : (n : ℕ) (s : State) (r : Stretch) → Flushes AnyRender IsAtRest n p s r → Holds s → Holds r.after
  flushes_keep zero s r t h = same_after Holds r (silent s) t.1 h
  flushes_keep (suc n) s r t h = same_after Holds r (followed_by t.1 t.2) t.5 (flushes_keep n t.1.after t.2 t.4 (kept.turns s None t.1 t.3 h))

  sync_keeps : (b : Bool) (s : State) (r : Stretch) → FlushSync AnyRender b p s r → Holds s → Holds r.after
  sync_keeps true s r t h = kept.turns s None r t h
  sync_keeps false s r t h = same_after Holds r (silent s) t h

  dispatched_keeps : (s : State) (d : Dispatch) (x : Option Mounted) → instance_found p s.tree (path_of d) ≡ x → Holds s → Holds (dispatched_to p s d x).after
  dispatched_keeps s d None e h = h
  dispatched_keeps s (dispatch.Set lane path name x) (Some m) e h = kept.sends s lane path m _ _ e h
  dispatched_keeps s (dispatch.Call lane path name f x) (Some m) e h = kept.sends s lane path m _ _ e h
  dispatched_keeps s (dispatch.Send lane path name x) (Some m) e h = kept.sends s lane path m _ _ e h
  dispatched_keeps s (dispatch.Start lane path name) (Some m) e h =
      let w = start_lane lane in
      let t = hook m.number (hook_number p m.component name) in
      kept.sends (dispatched_for s w t (op.Set (pos 1))) word.Transition path m (hook_number p m.component name) (op.Set (pos 0))
      (ap (λ (o : Option Node). instance_found p o path) (sent_tree w s t (op.Set (pos 1))) ∙ e)
      (kept.sends s w path m (hook_number p m.component name) (op.Set (pos 1)) e h)
  dispatched_keeps s (dispatch.Refresh word name) (Some m) e h = absurd (let f : None ≡ Some m = e in cc)

  enqueued_keeps : (s : State) (d : Dispatch) → Holds s → Holds (enqueued p s d).after
  enqueued_keeps s (dispatch.Set lane path name x) h = dispatched_keeps s (dispatch.Set lane path name x) (instance_found p s.tree path) refl h
  enqueued_keeps s (dispatch.Call lane path name f x) h = dispatched_keeps s (dispatch.Call lane path name f x) (instance_found p s.tree path) refl h
  enqueued_keeps s (dispatch.Send lane path name x) h = dispatched_keeps s (dispatch.Send lane path name x) (instance_found p s.tree path) refl h
  enqueued_keeps s (dispatch.Start lane path name) h = dispatched_keeps s (dispatch.Start lane path name) (instance_found p s.tree path) refl h
  enqueued_keeps s (dispatch.Refresh lane name) h = kept.refreshes s lane (resource_number p name) h

  step_keeps : (s : State) (x : Step) (r : Stretch) → StepTo AnyRender p s x r → Holds s → Holds r.after
  step_keeps s (step.Dispatch d) r t h = same_after Holds r _ t (enqueued_keeps (within d s) d (kept.events s (event_of d s.event) h))
  step_keeps s (step.Resolve name v) r t h =
      same_after Holds r _ t (kept.resolves (between_events s) name v (last_value (between_events s) (resource_number p name)) refl (kept.events s no_event h))
  step_keeps s (step.Tick n) r t h = same_after Holds r _ t (kept.ticks s (later s.now n) h)
  step_keeps s (step.Work n) r t h = kept.turns (between_events s) (Some n) r t (kept.events s no_event h)
  step_keeps s step.Flush r t h = flushes_keep t.0 (between_events s) r t.2 (kept.events s no_event h)
  step_keeps s step.FlushSync r t h = sync_keeps (has s.schedule.pending lane.Sync) (between_events s) r t (kept.events s no_event h)
  step_keeps s step.Passive r t h = same_after Holds r _ t (kept.passive (between_events s) (kept.events s no_event h))
  step_keeps s step.Event r t h = same_after Holds r _ t (kept.events s no_event h)
  step_keeps s step.State r t h = same_after Holds r _ t (kept.events s no_event h)
  step_keeps s step.Tree r t h = same_after Holds r _ t (kept.events s no_event h)

  move_keeps : (s : State) (x : Move) (t : State) → MovesTo p s x t → Holds s → Holds t
  move_keeps s (takes x) t m h = subst Holds (sym m.2) (step_keeps s x m.0 m.1 h)
  move_keeps s discards t m h = subst Holds (sym m) (kept.discards s h)
  move_keeps s (begins started) t m h = subst Holds (sym m) (kept.events s (new_event started) h)
  move_keeps s (sends w path k o) t m h = subst Holds (sym m.2) (kept.sends s w path m.0 k o m.1 h)
  move_keeps s (refreshes w r) t m h = subst Holds (sym m) (kept.refreshes s w r h)

  moves_keep : (moves : List Move) (t : State) → IsReachedBy p moves t → Holds t
  moves_keep [] t m = subst Holds (sym m) kept.starts
  moves_keep (x ∷ before) t m = move_keeps m.0 x t m.2 (moves_keep before m.0 m.1)

  pub holds_along : (s : State) → IsReached p s → Holds s
  holds_along s t = moves_keep t.0 s t.1
