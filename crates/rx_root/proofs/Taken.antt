-- Steps that render nothing are taken.
use Rattle.rx_sched.specs.declared.event.Event.{Event}
use Rattle.rx_sched.specs.Events.{no_event}
use Rattle.std.proofs.Common.{◌≡◌, ℕ, ℤ, pos, cond, ◌+◌, ◌<◌, Bool, true, false, Option, Some, None, List, [], ◌∷◌, length, refl, sym, ap, ◌∙◌, subst, arith}
use Rattle.std.specs.Prelude.{is_some}
use Rattle.rx_base.specs.Values.{Name}
use Rattle.rx_ast.specs.Syntax.{Program}
use Rattle.rx_rules.specs.Names.{resource_number, resources}
use Rattle.rx_elem.specs.Spots.{Mounted}
use Rattle.rx_elem.specs.Trees.{Node}
use Rattle.rx_queue.specs.declared.update.Op.TheVariants as op
use Rattle.rx_queue.specs.Journal.{Target, hook, next_version, resource}
use Rattle.rx_sched.specs.Deadlines.{later}
use Rattle.rx_sched.specs.Schedule.{after_resolution}
use Rattle.rx_effect.specs.EffectLog.{Passive, no_passive}
use Rattle.rx_forest.specs.Hosts.{hosts}
use Rattle.rx_lines.specs.Lines.{Line, Written, already, no_instance, tree_lines, with_line}
use Rattle.rx_step.specs.declared.step.Dispatch.{Dispatch}
use Rattle.rx_step.specs.declared.step.Dispatch.TheVariants as dispatch
use Rattle.rx_step.specs.declared.step.LaneWord.{LaneWord}
use Rattle.rx_step.specs.declared.step.LaneWord.TheVariants as word
use Rattle.rx_step.specs.declared.step.Step.{Step}
use Rattle.rx_step.specs.declared.step.Step.TheVariants as step
use Rattle.rx_step.specs.Steps.{hook_name, path_of, word_of}
use Rattle.rx_model.specs.State.{State, instance_found, state_lines}
use Rattle.rx_model.specs.Stretch.{Stretch, silent, writes}
use Rattle.rx_model.specs.Accepting.{between_events, dispatched, dispatched_for, dispatched_to, enqueued, event_of, goes_on, is_awaited_in, last_value, refreshed, resolved, resolved_as, sent, sent_to, unset_by, within, with_value}
use Rattle.rx_model.specs.Breaking.{BreaksOff}
use Rattle.rx_model.specs.Committing.{passive_run}
use Rattle.rx_model.specs.Machine.{StepTo}
use Rattle.rx_model.specs.Laws.{IsReached}
use Rattle.rx_writing.specs.Written.{passive_lines, with_lines}
use Rattle.rx_root.specs.declared.events.Sent.{Sent}
use Rattle.rx_root.specs.Rooted.{Rooted}
use Rattle.rx_root.specs.Stands.{Stands}
use Rattle.rx_dispatch.specs.Kinds.{is_refresh, is_start}
use Rattle.rx_resources.specs.Kept.{value_of}
use Rattle.rx_resources.specs.Kept as kept_of
use Rattle.rx_resources.specs.Store.{kept_at, resolved_at}
use Rattle.rx_root.specs.Taking.{HasNoInstance, IsFor, state_after, state_sent}
use Rattle.rx_root.specs.Paying.{Pays}
use Rattle.rx_root.specs.Turning.{HasDone, Takes}
use Rattle.rx_model.proofs.Reached.{begins-reach, sends-reach, step-reached}
use Rattle.rx_root.proofs.Broken.{nothing_taken}
use Rattle.rx_kept.proofs.Resources.{last_is}
use Rattle.rx_hook_store.proofs.Dispatching.{tree_dispatched}
use Rattle.rx_root.proofs.Standing.{at_time, stands_at, stands_resolved}
use Rattle.rx_root.proofs.TurnLines.{with_none, with_one}

-- ---- a step that writes these lines, or none

writes_taken : (p : Program) (s : State) (x : Step) (v : Rooted) (log new : Written) (lines : List Line) (t : State) (n : ℕ) → StepTo Pays p s x (writes lines t) → Stands p t v
    → new ≡ with_lines log lines → Takes p (StepTo Pays p s x) v log new n n
writes_taken p s x v log new lines t n step stands are =
    record { stretch = writes lines t; asked = step; done = record { stands = stands; written = are }; bodies = omega arith }

silent_taken : (p : Program) (s : State) (x : Step) (v : Rooted) (log : Written) (t : State) (n : ℕ) → StepTo Pays p s x (silent t) → Stands p t v → Takes p (StepTo Pays p s x) v log log n n
silent_taken p s x v log t n step stands = writes_taken p s x v log log [] t n step stands (sym (with_none log))

-- ---- the end of an event, and the steps that end one

event_reached : (p : Program) (s : State) → IsReached p s → IsReached p (between_events s)
event_reached p s reached = step-reached p s step.Event (silent (between_events s)) reached refl

between_stands : (p : Program) (s : State) (v : Rooted) → Stands p s v → Stands p (between_events s) (record v { event = no_event })
between_stands p s v h = stands_at p s s.now no_event s.passive v v.now v.shown h.now h.shows (event_reached p s h.reached) h

-- an event has ended
pub event_stands : (p : Program) (s : State) (v new : Rooted) → Stands p s v → new ≡ record v { event = no_event } → Stands p (between_events s) new
event_stands p s v new h is = subst (λ (r : Rooted). Stands p (between_events s) r) (sym is) (between_stands p s v h)

-- time has passed
pub time_stands : (p : Program) (s : State) (time : ℕ) (v new : Rooted) → Stands p s v → new ≡ record v { now = later v.now time; event = no_event }
    → Stands p (record (between_events s) { now = later s.now time }) new
time_stands p s time v new h is =
    let t : State = at_time s (later s.now time) no_event s.passive in
    subst (λ (r : Rooted). Stands p t r) (sym is)
    (stands_at p s (later s.now time) no_event s.passive v (later v.now time) v.shown (ap (λ k. later k time) h.now) h.shows
    (step-reached p s (step.Tick time) (silent t) h.reached refl) h)

-- the pending passive effects have run
pub passive_done : (p : Program) (s : State) (v new : Rooted) (log written : Written) → Stands p s v
    → new ≡ record v { shown = record v.shown { passive = no_passive }; event = no_event } → written ≡ with_lines log (passive_lines v.shown.passive)
    → HasDone p (passive_run (between_events s)) new log written
passive_done p s v new log written h is are =
    let t : State = at_time s s.now no_event no_passive in
    record {
      stands = subst (λ (r : Rooted). Stands p t r) (sym is)
          (stands_at p s s.now no_event no_passive v v.now (record v.shown { passive = no_passive }) h.now
          (record { hosts_are = h.shows.hosts_are; passive_is = refl })
          (step-reached p s step.Passive (passive_run (between_events s)) h.reached refl) h);
      written = are ∙ ap (λ (x : Passive). with_lines log (passive_lines x)) h.shows.passive_is;
    }

pub event_taken : (p : Program) (s : State) (new : Rooted) (log : Written) (n : ℕ) → Stands p (between_events s) new → Takes p (StepTo Pays p s step.Event) new log log n n
event_taken p s new log n h = silent_taken p s step.Event new log (between_events s) n refl h

pub tick_taken : (p : Program) (s : State) (time : ℕ) (new : Rooted) (log : Written) (n : ℕ) → Stands p (record (between_events s) { now = later s.now time }) new
    → Takes p (StepTo Pays p s (step.Tick time)) new log log n n
tick_taken p s time new log n h = silent_taken p s (step.Tick time) new log (record (between_events s) { now = later s.now time }) n refl h

pub passive_taken : (p : Program) (s : State) (new : Rooted) (log written : Written) (n : ℕ) → HasDone p (passive_run (between_events s)) new log written → Takes p (StepTo Pays p s step.Passive) new log written n n
passive_taken p s new log written n done = record { stretch = passive_run (between_events s); asked = refl; done = done; bodies = omega arith }

pub state_taken : (p : Program) (s : State) (new : Rooted) (log written : Written) (n : ℕ) → Stands p (between_events s) new → written ≡ with_lines log (state_lines p s)
    → Takes p (StepTo Pays p s step.State) new log written n n
state_taken p s new log written n h are = writes_taken p s step.State new log written (state_lines p s) (between_events s) n refl h are

pub tree_taken : (p : Program) (s : State) (new : Rooted) (log written : Written) (n : ℕ) → Stands p (between_events s) new → written ≡ with_lines log (tree_lines (hosts s.tree))
    → Takes p (StepTo Pays p s step.Tree) new log written n n
tree_taken p s new log written n h are = writes_taken p s step.Tree new log written (tree_lines (hosts s.tree)) (between_events s) n refl h are

-- ---- resolutions

-- a root keeps the value that the last version of a resource has by now
pub value_kept : (p : Program) (s : State) (v : Rooted) (r : ℕ) → Stands p s v → r < length (resources p) → value_of (kept_at v.resources r) (kept_of.last_version (kept_at v.resources r)) ≡ last_value s r
value_kept p s v r h lt = last_is p s.journal s.linked v.resources r (let all = h.resources.all in omega (arith, all, lt)) h.resources

-- a resource that has a value keeps it
pub already_stands : (p : Program) (s : State) (name : Name) (x known : ℤ) (v new : Rooted) → Stands p s v → last_value s (resource_number p name) ≡ Some known
    → new ≡ record v { event = no_event } → Stands p (resolved p (between_events s) name x).after new
already_stands p s name x known v new h has is =
    subst (λ (r : Stretch). Stands p r.after new) (sym (ap (resolved_as p (between_events s) name x) has)) (event_stands p s v new h is)

-- one that has none gets it
pub resolved_stands : (p : Program) (s : State) (name : Name) (x : ℤ) (v new : Rooted) → Stands p s v
    → last_value s (resource_number p name) ≡ None → resource_number p name < length (resources p)
    → new ≡ record v {
      schedule = after_resolution v.schedule (resource_number p name) (next_version s.journal (resource_number p name)) (is_awaited_in s (resource_number p name) (next_version s.journal (resource_number p name))) v.now;
      resolutions = v.resolutions + 1;
      resources = resolved_at x (resource_number p name) v.resources;
      event = no_event;
    }
    → Stands p (resolved p (between_events s) name x).after new
resolved_stands p s name x v new h none within is =
    let r = resource_number p name in
    let t : State = with_value (between_events s) r x in
    let goes : silent t ≡ resolved p (between_events s) name x = sym (ap (resolved_as p (between_events s) name x) none) in
    subst (λ (q : Stretch). Stands p q.after new) goes
    (subst (λ (q : Rooted). Stands p t q) (sym is)
    (stands_resolved p (between_events s) r x (record v { event = no_event }) within (step-reached p s (step.Resolve name x) (silent t) h.reached goes) (between_stands p s v h)))

-- a resource without a value has none that is known
pub none_known : (o : Option ℤ) → ((known : ℤ) → o ≡ Some known → ⊥) → o ≡ None
none_known None never = refl
none_known (Some x) never = absurd (never x refl)

-- a resolution that is accepted
pub resolved_taken : (p : Program) (s : State) (name : Name) (x : ℤ) (new : Rooted) (log : Written) (n : ℕ) → last_value s (resource_number p name) ≡ None
    → Stands p (resolved p (between_events s) name x).after new → Takes p (StepTo Pays p s (step.Resolve name x)) new log log n n
resolved_taken p s name x new log n none h =
    let t : State = with_value (between_events s) (resource_number p name) x in
    let goes : silent t ≡ resolved p (between_events s) name x = sym (ap (resolved_as p (between_events s) name x) none) in
    silent_taken p s (step.Resolve name x) new log t n goes (subst (λ (q : Stretch). Stands p q.after new) (sym goes) h)

-- one that is refused, whose line is written
pub already_taken : (p : Program) (s : State) (name : Name) (x known : ℤ) (new : Rooted) (log written : Written) (n : ℕ) → last_value s (resource_number p name) ≡ Some known
    → Stands p (resolved p (between_events s) name x).after new → written ≡ with_line log (already name known) → Takes p (StepTo Pays p s (step.Resolve name x)) new log written n n
already_taken p s name x known new log written n has h are =
    let goes : writes (already name known ∷ []) (between_events s) ≡ resolved p (between_events s) name x = sym (ap (resolved_as p (between_events s) name x) has) in
    writes_taken p s (step.Resolve name x) new log written (already name known ∷ []) (between_events s) n goes
    (subst (λ (q : Stretch). Stands p q.after new) (sym goes) h) (are ∙ with_one log (already name known))

-- or is not
pub already_broken : (p : Program) (s : State) (name : Name) (x known : ℤ) (new : Rooted) (log written : Written) (n : ℕ) → last_value s (resource_number p name) ≡ Some known
    → Stands p s new → written ≡ log → Takes p (BreaksOff Pays p s (step.Resolve name x)) new log written n n
already_broken p s name x known new log written n has h same =
    let some : is_some (last_value s (resource_number p name)) ≡ true = ap (λ (o : Option ℤ). is_some o) has in
    nothing_taken (BreaksOff Pays p s (step.Resolve name x)) p s new log written n (some, refl) h same

-- ---- dispatches

-- a dispatch that is no refresh is sent to a hook
hook_sent : (p : Program) (s : State) (d : Dispatch) → is_refresh d ≡ false → enqueued p s d ≡ sent p s d
hook_sent p s (dispatch.Set w path name x) e = refl
hook_sent p s (dispatch.Call w path name f x) e = refl
hook_sent p s (dispatch.Send w path name x) e = refl
hook_sent p s (dispatch.Start w path name) e = refl
hook_sent p s (dispatch.Refresh w name) e = absurd (cc e)

-- one that is asks for another version of its resource
refresh_sent : (p : Program) (s : State) (d : Dispatch) → is_refresh d ≡ true → enqueued p s d ≡ refreshed p s (word_of d) (hook_name d)
refresh_sent p s (dispatch.Set w path name x) e = absurd (cc e)
refresh_sent p s (dispatch.Call w path name f x) e = absurd (cc e)
refresh_sent p s (dispatch.Send w path name x) e = absurd (cc e)
refresh_sent p s (dispatch.Start w path name) e = absurd (cc e)
refresh_sent p s (dispatch.Refresh w name) e = refl

-- whether there is an instance for a dispatch to a hook
pub no_instance_is : (p : Program) (s : State) (d : Dispatch) → is_refresh d ≡ false → HasNoInstance p s d ≡ (instance_found p s.tree (path_of d) ≡ None)
no_instance_is p s (dispatch.Set w path name x) e = refl
no_instance_is p s (dispatch.Call w path name f x) e = refl
no_instance_is p s (dispatch.Send w path name x) e = refl
no_instance_is p s (dispatch.Start w path name) e = refl
no_instance_is p s (dispatch.Refresh w name) e = absurd (cc e)

-- there is none to ask for of a refresh
pub some_instance : (p : Program) (s : State) (d : Dispatch) → is_refresh d ≡ true → HasNoInstance p s d → ⊥
some_instance p s (dispatch.Set w path name x) e none = cc e
some_instance p s (dispatch.Call w path name f x) e none = cc e
some_instance p s (dispatch.Send w path name x) e none = cc e
some_instance p s (dispatch.Start w path name) e none = cc e
some_instance p s (dispatch.Refresh w name) e none = none

-- an event changes nothing of that
pub none_within : (p : Program) (s : State) (d : Dispatch) → HasNoInstance p (within d s) d ≡ HasNoInstance p s d
none_within p s (dispatch.Set w path name x) = refl
none_within p s (dispatch.Call w path name f x) = refl
none_within p s (dispatch.Send w path name x) = refl
none_within p s (dispatch.Start w path name) = refl
none_within p s (dispatch.Refresh w name) = refl

pub hook_stands : (p : Program) (s : State) (d : Dispatch) (v : Rooted) → is_refresh d ≡ false → Stands p (sent p s d).after v → Stands p (enqueued p s d).after v
hook_stands p s d v e h = subst (λ (r : Stretch). Stands p r.after v) (sym (hook_sent p s d e)) h

-- the event of a dispatch goes on, or begins

goes_on_reached : (p : Program) (s : State) (w : LaneWord) → IsReached p s → IsReached p (record s { event = goes_on w s.event })
goes_on_reached p s w reached = by_word w
  where
    by_start : (b : Bool) → IsReached p (record s { event = cond b no_event s.event })
    by_start true = begins-reach p s false reached
    by_start false = reached

    by_word : (w : LaneWord) → IsReached p (record s { event = goes_on w s.event })
    by_word word.Sync = by_start s.event.started
    by_word word.Input = by_start s.event.started
    by_word word.Default = by_start s.event.started
    by_word word.Transition = reached

within_reached : (p : Program) (s : State) (d : Dispatch) → IsReached p s → IsReached p (within d s)
within_reached p s (dispatch.Set w path name x) reached = goes_on_reached p s w reached
within_reached p s (dispatch.Call w path name f x) reached = goes_on_reached p s w reached
within_reached p s (dispatch.Send w path name x) reached = goes_on_reached p s w reached
within_reached p s (dispatch.Start w path name) reached = begins-reach p s true reached
within_reached p s (dispatch.Refresh w name) reached = goes_on_reached p s w reached

-- a root in the event of a dispatch
pub within_stands : (p : Program) (s : State) (d : Dispatch) (v new : Rooted) → Stands p s v → new ≡ record v { event = event_of d v.event } → Stands p (within d s) new
within_stands p s d v new h is =
    subst (λ (r : Rooted). Stands p (within d s) r) (sym (is ∙ ap (λ (e : Event). record v { event = event_of d e }) h.event))
    (stands_at p s s.now (event_of d s.event) s.passive v v.now v.shown h.now h.shows (within_reached p s d h.reached) h)

-- and once its event is again the one before it
pub without_stands : (p : Program) (s : State) (d : Dispatch) (v w new : Rooted) → Stands p s v → Stands p (within d s) w → new ≡ record w { event = v.event } → Stands p s new
without_stands p s d v w new h k is =
    subst (λ (r : Rooted). Stands p s r) (sym (is ∙ ap (λ (e : Event). record w { event = e }) h.event))
    (stands_at p (within d s) s.now s.event s.passive w w.now w.shown k.now k.shows h.reached k)

-- refreshes

-- the state after a refresh, by the resource that it is for
abbrev pub state_refreshed : State → LaneWord → (resource : ℕ) → State
state_refreshed s w r = dispatched_for s w (resource r) op.Refresh

pub refresh_step : (p : Program) (s : State) (d : Dispatch) (w : LaneWord) (r : ℕ) → is_refresh d ≡ true → w ≡ word_of d → r ≡ resource_number p (hook_name d) → silent (state_refreshed s w r) ≡ enqueued p s d
refresh_step p s d w r e is_word is_number = (λ i. silent (state_refreshed s (is_word i) (is_number i))) ∙ sym (refresh_sent p s d e)

pub refresh_stands : (p : Program) (s : State) (d : Dispatch) (w : LaneWord) (r : ℕ) (v : Rooted) → is_refresh d ≡ true → w ≡ word_of d → r ≡ resource_number p (hook_name d) → Stands p (state_refreshed s w r) v
    → Stands p (enqueued p s d).after v
refresh_stands p s d w r v e is_word is_number h = subst (λ (x : Stretch). Stands p x.after v) (refresh_step p s d w r e is_word is_number) h

-- dispatches to hooks

-- a dispatch whose path leads to no instance
pub refused_taken : (p : Program) (s : State) (d : Dispatch) (v : Rooted) (log written : Written) (n : ℕ) → Stands p (within d s) v → HasNoInstance p s d
    → written ≡ with_line log (no_instance (path_of d)) → Takes p (StepTo Pays p s (step.Dispatch d)) v log written n n
refused_taken p s d v log written n h none are = go (is_refresh d) refl
  where
    go : (b : Bool) → is_refresh d ≡ b → Takes p (StepTo Pays p s (step.Dispatch d)) v log written n n
    go true e = absurd (some_instance p s d e none)
    go false e =
        let nowhere : instance_found p s.tree (path_of d) ≡ None = subst (λ (A : Type 0). A) (no_instance_is p s d e) none in
        writes_taken p s (step.Dispatch d) v log written (no_instance (path_of d) ∷ []) (within d s) n (sym (hook_sent p (within d s) d e ∙ ap (dispatched_to p (within d s) d) nowhere)) h
        (are ∙ with_one log (no_instance (path_of d)))

sent_step : (p : Program) (s : State) (d : Dispatch) (to : Sent) → IsFor p s d to → silent (state_after s d to) ≡ sent p s d
sent_step p s d to is =
    sym (ap (dispatched_to p s d) is.found
    ∙ (λ i. silent (unset_by d (hook (sym is.number i) (sym is.hook i)) (dispatched_for s (word_of d) (hook (sym is.number i) (sym is.hook i)) (sym is.op i)))))

-- the state after what is sent first can be reached
pub sent_reached : (p : Program) (s : State) (d : Dispatch) (to : Sent) → IsReached p s → IsFor p s d to → IsReached p (state_sent s d to)
sent_reached p s d to reached is =
    subst (λ (n : ℕ). IsReached p (dispatched_for s (word_of d) (hook n to.place) to.op)) (sym is.number) (sends-reach p s (word_of d) (path_of d) is.instance to.place to.op is.found reached)

-- and the state after what a start sends next
pub unset_reached : (p : Program) (s : State) (d : Dispatch) (to : Sent) → IsReached p s → IsFor p s d to
    → IsReached p (dispatched_for (state_sent s d to) word.Transition (hook to.instance to.place) (op.Set (pos 0)))
unset_reached p s d to reached is =
    let t : State = state_sent s d to in
    let found : instance_found p t.tree (path_of d) ≡ Some is.instance = ap (λ (x : Option Node). instance_found p x (path_of d)) (tree_dispatched s (word_of d) (hook to.instance to.place) to.op) ∙ is.found in
    subst (λ (n : ℕ). IsReached p (dispatched_for t word.Transition (hook n to.place) (op.Set (pos 0)))) (sym is.number)
    (sends-reach p t word.Transition (path_of d) is.instance to.place (op.Set (pos 0)) found (sent_reached p s d to reached is))

-- a dispatch to an instance that is there
pub dispatch_stands : (p : Program) (s : State) (d : Dispatch) (to : Sent) (v : Rooted) → IsFor p s d to → Stands p (state_after s d to) v → Stands p (sent p s d).after v
dispatch_stands p s d to v is h = subst (λ (r : Stretch). Stands p r.after v) (sent_step p s d to is) h

-- a start sends two updates
start_unsets : (d : Dispatch) (t : Target) (s : State) → is_start d ≡ true → unset_by d t s ≡ dispatched_for s word.Transition t (op.Set (pos 0))
start_unsets (dispatch.Set w path name x) t s e = absurd (cc e)
start_unsets (dispatch.Call w path name f x) t s e = absurd (cc e)
start_unsets (dispatch.Send w path name x) t s e = absurd (cc e)
start_unsets (dispatch.Start w path name) t s e = refl
start_unsets (dispatch.Refresh w name) t s e = absurd (cc e)

-- what is no start sends one
other_unsets : (d : Dispatch) (t : Target) (s : State) → is_start d ≡ false → unset_by d t s ≡ s
other_unsets (dispatch.Set w path name x) t s e = refl
other_unsets (dispatch.Call w path name f x) t s e = refl
other_unsets (dispatch.Send w path name x) t s e = refl
other_unsets (dispatch.Start w path name) t s e = absurd (cc e)
other_unsets (dispatch.Refresh w name) t s e = refl

pub start_stands : (p : Program) (s : State) (d : Dispatch) (to : Sent) (v : Rooted) → is_start d ≡ true
    → Stands p (dispatched_for (state_sent s d to) word.Transition (hook to.instance to.place) (op.Set (pos 0))) v → Stands p (state_after s d to) v
start_stands p s d to v e h = subst (λ (t : State). Stands p t v) (sym (start_unsets d (hook to.instance to.place) (state_sent s d to) e)) h

pub other_stands : (p : Program) (s : State) (d : Dispatch) (to : Sent) (v : Rooted) → is_start d ≡ false → Stands p (state_sent s d to) v → Stands p (state_after s d to) v
other_stands p s d to v e h = subst (λ (t : State). Stands p t v) (sym (other_unsets d (hook to.instance to.place) (state_sent s d to) e)) h

-- some instance was found
some_taken : (p : Program) (s : State) (d : Dispatch) (v : Rooted) (log : Written) (n : ℕ) (o : Option Mounted) → is_refresh d ≡ false → instance_found p s.tree (path_of d) ≡ o → (o ≡ None → ⊥)
    → Stands p (dispatched p s d).after v → Takes p (StepTo Pays p s (step.Dispatch d)) v log log n n
some_taken p s d v log n None hooks e some h = absurd (some refl)
some_taken p s d v log n (Some m) hooks e some h =
    let t : State = sent_to p (within d s) d m in
    let goes : silent t ≡ dispatched p s d = sym (hook_sent p (within d s) d hooks ∙ ap (dispatched_to p (within d s) d) e) in
    silent_taken p s (step.Dispatch d) v log t n goes (subst (λ (r : Stretch). Stands p r.after v) (sym goes) h)

pub dispatch_taken : (p : Program) (s : State) (d : Dispatch) (v : Rooted) (log : Written) (n : ℕ) → (HasNoInstance p s d → ⊥)
    → Stands p (dispatched p s d).after v → Takes p (StepTo Pays p s (step.Dispatch d)) v log log n n
dispatch_taken p s d v log n some h = go (is_refresh d) refl
  where
    go : (b : Bool) → is_refresh d ≡ b → Takes p (StepTo Pays p s (step.Dispatch d)) v log log n n
    go true e =
        let t : State = state_refreshed (within d s) (word_of d) (resource_number p (hook_name d)) in
        let goes : silent t ≡ dispatched p s d = refresh_step p (within d s) d (word_of d) (resource_number p (hook_name d)) e refl refl in
        silent_taken p s (step.Dispatch d) v log t n goes (subst (λ (r : Stretch). Stands p r.after v) (sym goes) h)
    go false e =
        some_taken p s d v log n (instance_found p s.tree (path_of d)) e refl (λ none. some (subst (λ (A : Type 0). A) (sym (no_instance_is p s d e)) none)) h
