-- In each state that can be reached, the tree is what commits left, so its operations replay.
use Rattle.std.specs.Prelude.{◌≡◌, ℕ, zero, suc, Bool, true, false, cond, List, [], ◌∷◌, ℤ, Option, Some, None, refl}
use Rattle.std.proofs.Common.{◌∙◌, arith, inl, inr, sym, subst}
use Rattle.rx_base.specs.Awaits.{Awaits}
use Rattle.rx_lane.specs.declared.lane.Lane.{Lane}
use Rattle.rx_lane.specs.declared.lane.Lane.TheVariants as lane
use Rattle.rx_lane.specs.Lanes.{has, only_transitions}
use Rattle.rx_ast.specs.Syntax.{Program}
use Rattle.rx_rules.specs.Names.{resource_number}
use Rattle.rx_step.specs.declared.step.LaneWord.{LaneWord}
use Rattle.rx_step.specs.declared.step.LaneWord.TheVariants as word
use Rattle.rx_step.specs.declared.step.Dispatch.{Dispatch}
use Rattle.rx_step.specs.declared.step.Dispatch.TheVariants as dispatch
use Rattle.rx_step.specs.declared.step.Step.{Step}
use Rattle.rx_step.specs.declared.step.Step.TheVariants as step
use Rattle.rx_step.specs.Steps.{word_of}
use Rattle.rx_sched.specs.declared.choice.Choice.{Choice}
use Rattle.rx_sched.specs.declared.choice.Choice.TheVariants as choice
use Rattle.rx_elem.specs.Trees.{Node}
use Rattle.rx_elem.specs.Spots.{Mounted}
use Rattle.rx_elem.specs.Compare.{Change}
use Rattle.rx_elem.specs.Numbers.{numbered}
use Rattle.rx_queue.specs.Journal.{Target, hook, resource}
use Rattle.rx_queue.specs.declared.update.Op.TheVariants as op
use Rattle.rx_meaning.specs.Fresh.{made, fresh}
use Rattle.rx_meaning.specs.Outcome.{commit, defer, outcome_by, newly_hidden}
use Rattle.rx_model.specs.State.{State, Progress, opening, instance_found}
use Rattle.rx_model.specs.Stretch.{Stretch, silent, followed_by}
use Rattle.rx_model.specs.Accepting.{between_events, dispatched, dispatched_for, dispatched_to, enqueued, in_event, lane_of, last_value, op_of, resolved, resolved_as, target_of, unset_by, within}
use Rattle.rx_model.specs.Committing.{passive_run, starting, sight_of, committed_state, ended_by}
use Rattle.rx_model.specs.Turns.{AnyRender, GoesOn, Continues, TurnBy, choice_of}
use Rattle.rx_model.specs.Machine.{IsAtRest, Flushes, FlushSync, StepTo}
use Rattle.rx_model.specs.Laws.{IsReached, IsReachedBy, Move, MovesTo, begins, discards, refreshes, sends, takes}
use Rattle.rx_lines.specs.Lines.{Counts}
use Rattle.host_laws.proofs.Replay.{commit_replays}
use Rattle.host_laws.proofs.Replayable.{commit_made}
use Rattle.replay_laws.specs.Committed.{IsCommitted, none_yet, one_more, ReplayLaw, MadeLaw}
use Rattle.replay_laws.proofs.Committing.{renders_commit}

-- two states have the same tree and the same next numbers
abbrev Alike : State → State → Type 0
Alike s t = (s.tree ≡ t.tree) × (s.numbers ≡ t.numbers)

-- the tree of a state and the numbers that come next are what commits left
abbrev Holds : Program → State → Type 0
Holds p s = IsCommitted p s.numbers s.tree

same_holds : (p : Program) (r q : Stretch) → r ≡ q → Holds p q.after → Holds p r.after
same_holds p r q e h = subst (λ (x : Stretch). Holds p x.after) (sym e) h

-- Dispatches and resolutions change no tree

event_tree : (w : LaneWord) (s : State) (t : Target) (l : Lane) → Alike (in_event w s t l) s
event_tree word.Sync s t l = (refl, refl)
event_tree word.Input s t l = (refl, refl)
event_tree word.Default s t l = (refl, refl)
event_tree word.Transition s t l = (refl, refl)

alike_holds : (p : Program) (s t : State) → Alike s t → Holds p t → Holds p s
alike_holds p s t a h = subst (λ n. IsCommitted p n s.tree) (sym a.1) (subst (λ o. IsCommitted p t.numbers o) (sym a.0) h)

unset_tree : (s : State) (d : Dispatch) (t : Target) → Alike (unset_by d t s) s
unset_tree s (dispatch.Set w path name x) t = (refl, refl)
unset_tree s (dispatch.Call w path name f x) t = (refl, refl)
unset_tree s (dispatch.Send w path name x) t = (refl, refl)
unset_tree s (dispatch.Start w path name) t = event_tree word.Transition s t (lane_of s word.Transition)
unset_tree s (dispatch.Refresh w name) t = (refl, refl)

sent_tree : (p : Program) (s : State) (d : Dispatch) (m : Option Mounted) → Alike (dispatched_to p s d m).after s
sent_tree p s d None = (refl, refl)
sent_tree p s d (Some m) =
    let t = target_of p d m in
    let first = dispatched_for s (word_of d) t (op_of p m.component d) in
    let other = unset_tree first d t in
    let one = event_tree (word_of d) s t (lane_of s (word_of d)) in (other.0 ∙ one.0, other.1 ∙ one.1)

enqueued_tree : (p : Program) (s : State) (d : Dispatch) → Alike (enqueued p s d).after s
enqueued_tree p s (dispatch.Set w path name x) = sent_tree p s (dispatch.Set w path name x) (instance_found p s.tree path)
enqueued_tree p s (dispatch.Call w path name f x) = sent_tree p s (dispatch.Call w path name f x) (instance_found p s.tree path)
enqueued_tree p s (dispatch.Send w path name x) = sent_tree p s (dispatch.Send w path name x) (instance_found p s.tree path)
enqueued_tree p s (dispatch.Start w path name) = sent_tree p s (dispatch.Start w path name) (instance_found p s.tree path)
enqueued_tree p s (dispatch.Refresh w name) = event_tree w s _ _

dispatched_tree : (p : Program) (s : State) (d : Dispatch) → Alike (dispatched p s d).after s
dispatched_tree p s d = enqueued_tree p (within d s) d

resolved_tree : (p : Program) (s : State) (name : List ℕ) (x : ℤ) (v : Option ℤ) → Alike (resolved_as p s name x v).after s
resolved_tree p s name x None = (refl, refl)
resolved_tree p s name x (Some y) = (refl, refl)

-- The end of a render

sync_tree : (b : Bool) (s : State) → Alike (cond b (passive_run s) (silent s)).after s
sync_tree true s = (refl, refl)
sync_tree false s = (refl, refl)

committed_holds : (p : Program) (s : State) (g : Progress) (counts : Counts) (tree : Node) → fresh (sight_of p s g) s.tree ≡ made tree → Holds p s
    → Holds p (ended_by s g counts (commit tree)).after
committed_holds p s g counts tree gives h =
    alike_holds p (ended_by s g counts (commit tree)).after (committed_state s g (numbered s.numbers tree))
    (sync_tree (has g.lanes lane.Sync) (committed_state s g (numbered s.numbers tree)))
    (one_more (sight_of p s g) s.numbers s.tree tree refl h gives)

ended_holds : (p : Program) (s : State) (g : Progress) (counts : Counts) (tree : Node) (cs : List Change) → fresh (sight_of p s g) s.tree ≡ made tree → Holds p s
    → Holds p (ended_by s g counts (outcome_by g.lanes tree cs)).after
ended_holds p s g counts tree [] gives h = committed_holds p s g counts tree gives h
ended_holds p s g counts tree (c ∷ cs) gives h = go (only_transitions g.lanes) _
  where
    go : (b : Bool) (w : Awaits) → Holds p (ended_by s g counts (cond b (defer w) (commit tree))).after
    go true w = h
    go false w = committed_holds p s g counts tree gives h

-- Turns

going_holds : (p : Program) (s : State) (g : Progress) (budget : Option ℕ) (r : Stretch) → GoesOn AnyRender p s g budget r → Holds p s → Holds p r.after
going_holds p s g budget r (inl f, _) h =
    same_holds p r _ f.stretch_is (ended_holds p s g f.counts f.tree (newly_hidden s.tree f.tree) f.rendered h)
going_holds p s g budget r (inr y, _) h = same_holds p r _ y.stretch_is h

turn_holds : (p : Program) (s : State) (c : Choice) (budget : Option ℕ) (r : Stretch) → TurnBy AnyRender p s c budget r → Holds p s → Holds p r.after
turn_holds p s choice.None budget r is h = same_holds p r (silent s) is h
turn_holds p s choice.Keep budget r on h = go s.progress on
  where
    go : (x : Option Progress) → Continues AnyRender p s x budget r → Holds p r.after
    go None k = absurd k
    go (Some g) k = going_holds p s g budget r k h
turn_holds p s (choice.Start lanes) budget r starts h =
    same_holds p r (followed_by (passive_run s) starts.rest) starts.stretch_is
    (going_holds p (passive_run s).after (starting s lanes) budget starts.rest starts.begins h)

flushes_hold : (n : ℕ) (p : Program) (s : State) (r : Stretch) → Flushes AnyRender IsAtRest n p s r → Holds p s → Holds p r.after
flushes_hold zero p s r t h = same_holds p r (silent s) t.1 h
flushes_hold (suc n) p s r t h =
    same_holds p r (followed_by t.1 t.2) t.5 (flushes_hold n p t.1.after t.2 t.4 (turn_holds p s (choice_of s) None t.1 t.3 h))

sync_holds : (b : Bool) (p : Program) (s : State) (r : Stretch) → FlushSync AnyRender b p s r → Holds p s → Holds p r.after
sync_holds true p s r t h = turn_holds p s (choice_of s) None r t h
sync_holds false p s r t h = same_holds p r (silent s) t h

-- Steps

step_holds : (p : Program) (s : State) (x : Step) (r : Stretch) → StepTo AnyRender p s x r → Holds p s → Holds p r.after
step_holds p s (step.Dispatch d) r t h =
    same_holds p r _ t (alike_holds p (dispatched p s d).after s (dispatched_tree p s d) h)
step_holds p s (step.Resolve name v) r t h =
    same_holds p r _ t (alike_holds p (resolved p (between_events s) name v).after s
    (resolved_tree p (between_events s) name v (last_value s (resource_number p name))) h)
step_holds p s (step.Tick n) r t h = same_holds p r _ t h
step_holds p s (step.Work n) r t h = turn_holds p (between_events s) (choice_of (between_events s)) (Some n) r t h
step_holds p s step.Flush r t h = flushes_hold t.0 p (between_events s) r t.2 h
step_holds p s step.FlushSync r t h = sync_holds (has s.schedule.pending lane.Sync) p (between_events s) r t h
step_holds p s step.Passive r t h = same_holds p r _ t h
step_holds p s step.Event r t h = same_holds p r _ t h
step_holds p s step.State r t h = same_holds p r _ t h
step_holds p s step.Tree r t h = same_holds p r _ t h

move_holds : (p : Program) (s : State) (x : Move) (t : State) → MovesTo p s x t → Holds p s → Holds p t
move_holds p s (takes x) t m h = subst (λ (u : State). Holds p u) (sym m.2) (step_holds p s x m.0 m.1 h)
move_holds p s discards t m h = subst (λ (u : State). Holds p u) (sym m) h
move_holds p s (begins started) t m h = subst (λ (u : State). Holds p u) (sym m) h
move_holds p s (sends w path k o) t m h = subst (λ (u : State). Holds p u) (sym m.2) (alike_holds p (dispatched_for s w (hook m.0.number k) o) s (event_tree w s _ _) h)
move_holds p s (refreshes w r) t m h = subst (λ (u : State). Holds p u) (sym m) (alike_holds p (dispatched_for s w (resource r) op.Refresh) s (event_tree w s _ _) h)

moves_hold : (p : Program) (moves : List Move) (t : State) → IsReachedBy p moves t → Holds p t
moves_hold p [] t m = subst (λ (u : State). Holds p u) (sym m) (none_yet opening.numbers (omega arith))
moves_hold p (x ∷ before) t m = move_holds p m.0 x t m.2 (moves_hold p before m.0 m.1)

-- each state that can be reached has what commits left
pub reached_committed : (p : Program) (s : State) → IsReached p s → IsCommitted p s.numbers s.tree
reached_committed p s t = moves_hold p t.0 s t.1

-- so the operations of a commit replay there
pub replay_law : (p : Program) → ReplayLaw p
replay_law p apart bounded s reached g n gives =
    commit_replays s.tree (numbered s.numbers n).1 (renders_commit p bounded apart (sight_of p s g) s.numbers s.tree n refl (reached_committed p s reached) gives).0

-- and each of them can be made in its turn
pub made_law : (p : Program) → MadeLaw p
made_law p apart bounded s reached g n gives =
    let c = renders_commit p bounded apart (sight_of p s g) s.numbers s.tree n refl (reached_committed p s reached) gives in
    commit_made s.tree (numbered s.numbers n).1 c.0 c.1
