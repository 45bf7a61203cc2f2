-- What renders nothing is done.
use Rattle.rx_sched.specs.Events.{no_event}
use Rattle.std.proofs.Common.{◌≡◌, ℕ, ℤ, map, ◌+◌, ◌<◌, Some, None, length, refl, sym, ap, ◌∙◌, subst, arith}
use Rattle.rx_base.specs.Values.{Name}
use Rattle.rx_ast.specs.Syntax.{Program}
use Rattle.rx_rules.specs.Names.{resource_number, resources}
use Rattle.rx_queue.specs.Journal.{next_version}
use Rattle.rx_sched.specs.Deadlines.{later}
use Rattle.rx_sched.specs.Schedule.{after_resolution}
use Rattle.rx_effect.specs.EffectLog.{Passive, no_passive, passive_log}
use Rattle.rx_lines.specs.Lines.{Written, already, logged, with_line}
use Rattle.rx_step.specs.declared.step.Step.TheVariants as step
use Rattle.rx_model.specs.State.{State}
use Rattle.rx_model.specs.Stretch.{Stretch, silent}
use Rattle.rx_model.specs.Accepting.{between_events, is_awaited_in, last_value, resolved, resolved_as, within, with_value}
use Rattle.rx_model.specs.Committing.{passive_run}
use Rattle.rx_model.specs.Laws.{IsReached}
use Rattle.rx_writing.specs.Written.{with_lines}
use Rattle.rx_resources.specs.Kept.{value_of}
use Rattle.rx_resources.specs.Kept as kept_of
use Rattle.rx_resources.specs.Store.{kept_at, resolved_at}
use Rattle.rx_model.proofs.Reached.{step-reached}
use Rattle.rx_plain.specs.Plained.{Plained}
use Rattle.rx_plain.specs.Doing.{HasDone}
use Rattle.rx_elem.specs.Numbers.{Numbers}
use Rattle.rx_plain.specs.Stands.{HasRoomFor, StandsFor}
use Rattle.rx_writing.proofs.Behind.{with_lines-nil, with_lines-one}
use Rattle.rx_kept.proofs.Resources.{last_is}
use Rattle.rx_plain.proofs.Standing.{at_time, stands_as, stands_resolved}

-- ---- the end of an event

event_reached : (p : Program) (s : State) → IsReached p s → IsReached p (between_events s)
event_reached p s reached = step-reached p s step.Event (silent (between_events s)) reached refl

-- an event has ended
pub event_stands : (p : Program) (s : State) (v new : Plained) → StandsFor p s v → new ≡ record v { event = no_event } → StandsFor p (between_events s) new
event_stands p s v new h is = stands_as p s s.progress s.now no_event s.passive v new v.now no_event v.passive h.now refl h.passive is (event_reached p s h.reached) h

-- time has passed
pub time_stands : (p : Program) (s : State) (time : ℕ) (v new : Plained) → StandsFor p s v → new ≡ record v { now = later v.now time; event = no_event }
    → StandsFor p (record (between_events s) { now = later s.now time }) new
time_stands p s time v new h is =
    stands_as p s s.progress (later s.now time) no_event s.passive v new (later v.now time) no_event v.passive (ap (λ k. later k time) h.now) refl h.passive is
    (step-reached p s (step.Tick time) (silent (at_time s (later s.now time) no_event s.passive)) h.reached refl) h

-- the pending passive effects have run
pub passive_done : (p : Program) (s : State) (v new : Plained) (log written : Written) → StandsFor p s v
    → new ≡ record v { passive = no_passive; event = no_event } → written ≡ with_lines log (map logged (passive_log v.passive))
    → HasDone p (passive_run (between_events s)) new log written
passive_done p s v new log written h is are =
    record {
      stands = stands_as p s s.progress s.now no_event no_passive v new v.now no_event no_passive h.now refl refl is
          (step-reached p s step.Passive (passive_run (between_events s)) h.reached refl) h;
      written = are ∙ ap (λ (x : Passive). with_lines log (map logged (passive_log x))) h.passive;
    }

-- ---- resolutions

-- the value that the last version of a resource has by now is kept
pub value_kept : (p : Program) (s : State) (v : Plained) (r : ℕ) → StandsFor p s v → r < length (resources p) → value_of (kept_at v.resources r) (kept_of.last_version (kept_at v.resources r)) ≡ last_value s r
value_kept p s v r h lt = last_is p s.journal s.linked v.resources r (let all = h.resources.all in omega (arith, all, lt)) h.resources

-- a resource that has a value keeps it
pub already_done : (p : Program) (s : State) (name : Name) (x known : ℤ) (v new : Plained) (log written : Written) → StandsFor p s v → last_value s (resource_number p name) ≡ Some known
    → new ≡ record v { event = no_event } → written ≡ with_line log (already name known) → HasDone p (resolved p (between_events s) name x) new log written
already_done p s name x known v new log written h has is are =
    subst (λ (r : Stretch). HasDone p r new log written) (sym (ap (resolved_as p (between_events s) name x) has))
    (record { stands = event_stands p s v new h is; written = are ∙ sym (with_lines-one log (already name known)) })

-- one that has none gets it
pub resolved_done : (p : Program) (s : State) (name : Name) (x : ℤ) (v new : Plained) (log : Written) → StandsFor p s v
    → last_value s (resource_number p name) ≡ None → resource_number p name < length (resources p)
    → new ≡ record v {
      schedule = after_resolution v.schedule (resource_number p name) (next_version s.journal (resource_number p name)) (is_awaited_in s (resource_number p name) (next_version s.journal (resource_number p name))) v.now;
      resolutions = v.resolutions + 1;
      resources = resolved_at x (resource_number p name) v.resources;
      event = no_event;
    }
    → HasDone p (resolved p (between_events s) name x) new log log
resolved_done p s name x v new log h none within is =
    let r = resource_number p name in
    let t : State = with_value (between_events s) r x in
    let goes : silent t ≡ resolved p (between_events s) name x = sym (ap (resolved_as p (between_events s) name x) none) in
    subst (λ (q : Stretch). HasDone p q new log log) goes
    (record {
      stands = subst (λ (q : Plained). StandsFor p t q) (sym is)
          (stands_resolved p (between_events s) r x (record v { event = no_event }) within (step-reached p s (step.Resolve name x) (silent t) h.reached goes) (event_stands p s v _ h refl));
      written = sym (with_lines-nil log);
    })

-- the room that is left
pub room_kept : (v w : Plained) → w.updates ≡ v.updates → w.resolutions ≡ v.resolutions → w.commits ≡ v.commits → w.numbers ≡ v.numbers → (k : ℕ) → HasRoomFor (k + 1) v → HasRoomFor k w
room_kept v w updates resolutions commits numbers k h =
    let instances : w.numbers.instance ≡ v.numbers.instance = ap (λ (m : Numbers). m.instance) numbers in
    let hosts : w.numbers.host ≡ v.numbers.host = ap (λ (m : Numbers). m.host) numbers in
    record {
      updates = omega (arith, updates, h.updates);
      resolutions = omega (arith, resolutions, h.resolutions);
      commits = omega (arith, commits, h.commits);
      instances = omega (arith, instances, h.instances);
      hosts = omega (arith, hosts, h.hosts);
    }

pub resolved_room : (v w : Plained) → w.updates ≡ v.updates → w.resolutions ≡ v.resolutions + 1 → w.commits ≡ v.commits → w.numbers ≡ v.numbers → (k : ℕ) → HasRoomFor (k + 1) v → HasRoomFor k w
resolved_room v w updates resolutions commits numbers k h =
    let instances : w.numbers.instance ≡ v.numbers.instance = ap (λ (m : Numbers). m.instance) numbers in
    let hosts : w.numbers.host ≡ v.numbers.host = ap (λ (m : Numbers). m.host) numbers in
    record {
      updates = omega (arith, updates, h.updates);
      resolutions = omega (arith, resolutions, h.resolutions);
      commits = omega (arith, commits, h.commits);
      instances = omega (arith, instances, h.instances);
      hosts = omega (arith, hosts, h.hosts);
    }
