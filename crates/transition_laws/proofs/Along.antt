-- What is kept of all flags holds in each state that is reached by moves that fit, and after each turn of a next step.
use Rattle.std.specs.Prelude.{◌≡◌, ◌⊎◌, ℕ, zero, suc, ℤ, pos, Bool, true, false, List, [], ◌∷◌, ◌++◌, Option, Some, None, if◌then◌else◌, refl}
use Rattle.std.specs.List.{AllByRecursion}
use Rattle.std.proofs.Common.{ap, inl, inr, subst, sym, ◌∙◌}
use Rattle.rx_base.specs.Values.{Name}
use Rattle.rx_lane.specs.declared.lane.Lane.{Lane}
use Rattle.rx_lane.specs.declared.lane.Lane.TheVariants as lane
use Rattle.rx_lane.specs.Lanes.{has, one, union}
use Rattle.rx_ast.specs.Syntax.{Program}
use Rattle.rx_rules.specs.Names.{resource_number}
use Rattle.rx_check.specs.Accepted.{IsAccepted}
use Rattle.rx_step.specs.Steps.{Path, start_lane}
use Rattle.rx_step.specs.declared.step.Dispatch.{Dispatch}
use Rattle.rx_step.specs.declared.step.Dispatch.TheVariants as dispatch
use Rattle.rx_step.specs.declared.step.LaneWord.{LaneWord}
use Rattle.rx_step.specs.declared.step.LaneWord.TheVariants as word
use Rattle.rx_step.specs.declared.step.StartWord.{StartWord}
use Rattle.rx_step.specs.declared.step.StartWord.TheVariants as start
use Rattle.rx_step.specs.declared.step.Step.{Step}
use Rattle.rx_step.specs.declared.step.Step.TheVariants as step
use Rattle.rx_script.specs.Lines.{has_targets, hook_at, is_state, is_updater}
use Rattle.rx_elem.specs.Spots.{Mounted, mounted}
use Rattle.rx_elem.specs.Trees.{Node}
use Rattle.rx_elem.proofs.Deciding.{and_passes, same_number}
use Rattle.rx_queue.specs.declared.update.Op.{Op}
use Rattle.rx_queue.specs.declared.update.Op.TheVariants as op
use Rattle.rx_queue.specs.Journal.{Target, hook, next_version, resource, same_target}
use Rattle.rx_sched.specs.declared.event.Event.{Event}
use Rattle.rx_sched.specs.Events.{no_event}
use Rattle.rx_sched.specs.Schedule.{Schedule, become_pending, wake}
use Rattle.rx_sched.specs.Waiting as waiting
use Rattle.rx_meaning.specs.Fresh.{none_yet}
use Rattle.rx_model.specs.Accepting.{between_events, dispatched_for, dispatched_to, enqueued, event_of, goes_on, is_awaited_in, last_value, resolved_as, within}
use Rattle.rx_model.specs.Laws.{IsBounded, IsReachedBy, Move, MovesTo, begins, discards, refreshes, sends, takes}
use Rattle.rx_model.specs.Machine.{FlushSync, Flushes, IsAtRest, StepTo}
use Rattle.rx_model.specs.State.{State, hook_number, instance_found, opening}
use Rattle.rx_model.specs.Stretch.{Stretch, followed_by, silent}
use Rattle.rx_model.specs.Turns.{AnyRender, Turn}
use Rattle.commit_laws.proofs.NoneLost.{more_pending, union_left}
use Rattle.run_laws.proofs.AlongRuns.{hook_keeps, opening_carries, refreshed_keeps, resolved_keeps}
use Rattle.run_laws.proofs.Walk.{same_after, sent_tree}
use Rattle.run_laws.specs.Carried.{IsCarried}
use Rattle.transition_laws.specs.Transitions.{is_gone}
use Rattle.transition_laws.specs.Flags.{flags_a_transition}
use Rattle.transition_laws.specs.Laws.{Fits, IsReachedFitting, TurnsTo, further, here}
use Rattle.transition_laws.proofs.Facts.{target_is}
use Rattle.transition_laws.proofs.Rendering.{event_changes}
use Rattle.transition_laws.proofs.Instances.{IsIn, one_number}
use Rattle.transition_laws.proofs.Staying.{mounted_here}
use Rattle.transition_laws.proofs.Names.{found_in, no_flag}
use Rattle.transition_laws.proofs.Keeping.{AllFacts, Base, FactsOf, base_sent, other_sent, start_sent}
use Rattle.transition_laws.proofs.Turning.{Rest, dropped_rest, passive_rest, turn_rest}
use Rattle.rx_model.specs.State.{linked_lanes}

-- what holds of a state: what is carried, and what is kept of all flags
abbrev pub Holds : Program → State → Type 0
Holds p s = IsCarried p s × Rest p s

opening_holds : (p : Program) → Holds p opening
opening_holds p = (
  opening_carries p,
  (
    record {
      tree = none_yet;
      counted = tt;
      lost = λ n u there mounted. absurd (cc there);
      owed = tt;
      next = refl;
      unclaimed = λ l is. absurd (cc is);
    },
    λ m k at flag. absurd at,
  ),
)

-- Events

-- if an event goes on after, it went on before
event_holds : (p : Program) (s : State) (e : Event) → ((l : Lane) → e.lane ≡ Some l → s.event.lane ≡ Some l) → Holds p s → Holds p (record s { event = e })
event_holds p s e goes h = (
  h.0,
  (
    record { tree = h.1.0.tree; counted = h.1.0.counted; lost = h.1.0.lost; owed = h.1.0.owed; next = h.1.0.next; unclaimed = λ l is. h.1.0.unclaimed l (goes l is) },
    λ m k at flag.
        event_changes s.tree (hook m.number k) (linked_lanes s.linked (hook m.number k)) s.schedule.links s.progress s.event.lane e.lane s.schedule.next_transition s.journal.updates goes
        (h.1.1 m k at flag),
  ),
)

between_holds : (p : Program) (s : State) → Holds p s → Holds p (between_events s)
between_holds p s h = event_holds p s no_event (λ l is. absurd (cc is)) h

word_goes : (w : LaneWord) (e : Event) (l : Lane) → (goes_on w e).lane ≡ Some l → e.lane ≡ Some l
word_goes w e l = go w e.started
  where
    urgent : (b : Bool) → (if b then no_event else e).lane ≡ Some l → e.lane ≡ Some l
    urgent true is = absurd (cc is)
    urgent false is = is

    go : (w : LaneWord) (b : Bool) → (goes_on w e).lane ≡ Some l → e.lane ≡ Some l
    go word.Sync b is = urgent e.started is
    go word.Input b is = urgent e.started is
    go word.Default b is = urgent e.started is
    go word.Transition b is = is

dispatch_goes : (d : Dispatch) (e : Event) (l : Lane) → (event_of d e).lane ≡ Some l → e.lane ≡ Some l
dispatch_goes (dispatch.Set w path name x) e l is = word_goes w e l is
dispatch_goes (dispatch.Call w path name f x) e l is = word_goes w e l is
dispatch_goes (dispatch.Send w path name x) e l is = word_goes w e l is
dispatch_goes (dispatch.Start w path name) e l is = absurd (cc is)
dispatch_goes (dispatch.Refresh w name) e l is = word_goes w e l is

-- Resolutions

-- the schedule after a resolution, by whether lanes wait for the resource and whether a boundary does
abbrev resolved_by_tests : Schedule → ℕ → (waits boundary : Bool) → Schedule
resolved_by_tests sch now waits boundary =
    let woken = if waits then wake now sch else sch in
    if boundary then become_pending now (one lane.Retry) woken else woken

resolution_rest : (p : Program) (s : State) (waits boundary : Bool) → Rest p s → Rest p (record s { schedule = resolved_by_tests s.schedule s.now waits boundary })
resolution_rest p s waits boundary h = go waits boundary
  where
    more : (l : Lane) → has s.schedule.pending l ≡ true → has (union s.schedule.pending (one lane.Retry)) l ≡ true
    more l k = union_left s.schedule.pending (one lane.Retry) l k

    go : (a b : Bool) → Rest p (record s { schedule = resolved_by_tests s.schedule s.now a b })
    go true true =
        (record { tree = h.0.tree; counted = h.0.counted; lost = more_pending s.tree s.journal.updates s.schedule.pending (union s.schedule.pending (one lane.Retry)) more h.0.lost; owed = h.0.owed; next = h.0.next; unclaimed = h.0.unclaimed }, h.1)
    go true false = (record { tree = h.0.tree; counted = h.0.counted; lost = h.0.lost; owed = h.0.owed; next = h.0.next; unclaimed = h.0.unclaimed }, h.1)
    go false true =
        (record { tree = h.0.tree; counted = h.0.counted; lost = more_pending s.tree s.journal.updates s.schedule.pending (union s.schedule.pending (one lane.Retry)) more h.0.lost; owed = h.0.owed; next = h.0.next; unclaimed = h.0.unclaimed }, h.1)
    go false false = (record { tree = h.0.tree; counted = h.0.counted; lost = h.0.lost; owed = h.0.owed; next = h.0.next; unclaimed = h.0.unclaimed }, h.1)

-- the updates of the journal are the same
resolutions_rest : (p : Program) (s : State) (more : _) → Rest p s → Rest p (record s { journal = record s.journal { resolutions = more } })
resolutions_rest p s more h = (record { tree = h.0.tree; counted = h.0.counted; lost = h.0.lost; owed = h.0.owed; next = h.0.next; unclaimed = h.0.unclaimed }, h.1)

value_rest : (p : Program) (s : State) (name : Name) (v : ℤ) (x : Option ℤ) → Rest p s → Rest p (resolved_as p s name v x).after
value_rest p s name v (Some y) h = h
value_rest p s name v None h =
    let r = resource_number p name in
    let next = next_version s.journal r in
    resolutions_rest p (record s { schedule = resolved_by_tests s.schedule s.now (waiting.has s.schedule.waiting r next) (is_awaited_in s r next) }) (s.journal.resolutions ++ (record { resource = r; value = v }) ∷ [])
    (resolution_rest p s (waiting.has s.schedule.waiting r next) (is_awaited_in s r next) h)

module _ (p : Program) (accepted : IsAccepted p) (bounded : IsBounded p) where
  -- Dispatches

  clash : {b : Bool} → b ≡ true → b ≡ false → ⊥
  clash h k = cc (h, k)

  other_facts : (s : State) (w : LaneWord) (t : Target) (o : Op) → ((m : Mounted) (k : ℕ) → IsIn m (mounted s.tree) → flags_a_transition p m.component k ≡ true → same_target (hook m.number k) t ≡ false)
      → Holds p s → AllFacts p (dispatched_for s w t o)
  other_facts s w t o other h m k at flag =
      let there : IsIn m (mounted s.tree) = subst (λ (tree : Option Node). IsIn m (mounted tree)) (sent_tree w s t o) at in
      other_sent p s h.0 h.1.0 t o (hook m.number k) (other m k there flag) (mounted_here s.tree m k there) w (h.1.1 m k there flag)

  -- an update is sent to a hook that is no flag
  plain_holds : (s : State) (w : LaneWord) (path : Path) (m : Mounted) (k : ℕ) (o : Op) → instance_found p s.tree path ≡ Some m → flags_a_transition p m.component k ≡ false → Holds p s
      → Holds p (dispatched_for s w (hook m.number k) o)
  plain_holds s w path m k o found plain h = (
    hook_keeps p bounded.shallow bounded.declared s w path m k o found h.0,
    (base_sent p s w (hook m.number k) o h.1.0, other_facts s w (hook m.number k) o other h),
  )
    where
      there : IsIn m (mounted s.tree)
      there = found_in p (mounted s.tree) path m found

      other : (x : Mounted) (j : ℕ) → IsIn x (mounted s.tree) → flags_a_transition p x.component j ≡ true → same_target (hook x.number j) (hook m.number k) ≡ false
      other x j at flag = go (same_target (hook x.number j) (hook m.number k)) refl
        where
          go : (b : Bool) → same_target (hook x.number j) (hook m.number k) ≡ b → b ≡ false
          go false is = refl
          go true is =
              let parts = and_passes _ _ is in
              let one : x ≡ m = one_number s.numbers.instance s.tree h.0.2.sound.own_numbers x m at there (same_number x.number m.number parts.0) in
              let same : flags_a_transition p x.component j ≡ flags_a_transition p m.component k = λ i. flags_a_transition p (one i).component (same_number j k parts.1 i) in
              absurd (clash flag (same ∙ plain))

  -- the state between the two updates of a start
  abbrev set_first : State → LaneWord → Mounted → ℕ → State
  set_first s w m k = dispatched_for s w (hook m.number k) (op.Set (pos 1))

  -- the state after them
  abbrev unset_then : State → LaneWord → Mounted → ℕ → State
  unset_then s w m k = dispatched_for (set_first s w m k) word.Transition (hook m.number k) (op.Set (pos 0))

  -- a start is accepted
  start_holds : (s : State) (w : LaneWord) (path : Path) (m : Mounted) (k : ℕ) → (w ≡ word.Sync) ⊎ (w ≡ word.Input) → s.event.lane ≡ None → instance_found p s.tree path ≡ Some m → Holds p s
      → Holds p (unset_then s w m k)
  start_holds s w path m k at_once new found h = (carried_then, (base_sent p (set_first s w m k) word.Transition (hook m.number k) (op.Set (pos 0)) base, facts))
    where
      between_tree : (set_first s w m k).tree ≡ s.tree
      between_tree = sent_tree w s (hook m.number k) (op.Set (pos 1))

      carried : IsCarried p (set_first s w m k)
      carried = hook_keeps p bounded.shallow bounded.declared s w path m k (op.Set (pos 1)) found h.0

      base : Base p (set_first s w m k)
      base = base_sent p s w (hook m.number k) (op.Set (pos 1)) h.1.0

      carried_then : IsCarried p (unset_then s w m k)
      carried_then =
          hook_keeps p bounded.shallow bounded.declared (set_first s w m k) word.Transition path m k (op.Set (pos 0))
          (ap (λ (o : Option Node). instance_found p o path) between_tree ∙ found) carried

      facts : AllFacts p (unset_then s w m k)
      facts x j at flag = go (same_target (hook x.number j) (hook m.number k)) refl
        where
          there : IsIn x (mounted s.tree)
          there = subst (λ (tree : Option Node). IsIn x (mounted tree)) (sent_tree word.Transition (set_first s w m k) (hook m.number k) (op.Set (pos 0)) ∙ between_tree) at

          go : (b : Bool) → same_target (hook x.number j) (hook m.number k) ≡ b → FactsOf (unset_then s w m k) (hook x.number j)
          go true is =
              let one : hook x.number j ≡ hook m.number k = target_is (hook x.number j) (hook m.number k) is in
              subst (λ (q : Target). FactsOf (unset_then s w m k) q) (sym one)
              (start_sent p s h.0 h.1.0 (hook m.number k) new w at_once (subst (λ (q : Target). FactsOf s q) one (h.1.1 x j there flag)))
          go false is =
              other_sent p (set_first s w m k) carried base (hook m.number k) (op.Set (pos 0)) (hook x.number j) is
              (subst (λ (tree : Option Node). is_gone tree (hook x.number j) ≡ false) (sym between_tree) (mounted_here s.tree x j there)) word.Transition
              (other_sent p s h.0 h.1.0 (hook m.number k) (op.Set (pos 1)) (hook x.number j) is (mounted_here s.tree x j there) w (h.1.1 x j there flag))

  starts_at_once : (w : StartWord) → (start_lane w ≡ word.Sync) ⊎ (start_lane w ≡ word.Input)
  starts_at_once start.Sync = inl refl
  starts_at_once start.Input = inr refl

  dispatched_holds : (s : State) (d : Dispatch) → has_targets p (step.Dispatch d) ≡ true → Holds p (within d s) → Holds p (enqueued p (within d s) d).after
  dispatched_holds s (dispatch.Set w path name x) fits h = go (instance_found p s.tree path) refl
    where
      go : (y : Option Mounted) → instance_found p s.tree path ≡ y → Holds p (dispatched_to p (within (dispatch.Set w path name x) s) (dispatch.Set w path name x) y).after
      go None found = h
      go (Some m) found =
          plain_holds (within (dispatch.Set w path name x) s) w path m (hook_number p m.component name) _ found (no_flag p accepted (mounted s.tree) path name (inl fits) m found) h
  dispatched_holds s (dispatch.Call w path name f x) fits h = go (instance_found p s.tree path) refl
    where
      go : (y : Option Mounted) → instance_found p s.tree path ≡ y → Holds p (dispatched_to p (within (dispatch.Call w path name f x) s) (dispatch.Call w path name f x) y).after
      go None found = h
      go (Some m) found =
          plain_holds (within (dispatch.Call w path name f x) s) w path m (hook_number p m.component name) _ found
          (no_flag p accepted (mounted s.tree) path name (inl (and_passes (is_state (hook_at p path name)) (is_updater p f) fits).0) m found) h
  dispatched_holds s (dispatch.Send w path name x) fits h = go (instance_found p s.tree path) refl
    where
      go : (y : Option Mounted) → instance_found p s.tree path ≡ y → Holds p (dispatched_to p (within (dispatch.Send w path name x) s) (dispatch.Send w path name x) y).after
      go None found = h
      go (Some m) found =
          plain_holds (within (dispatch.Send w path name x) s) w path m (hook_number p m.component name) _ found (no_flag p accepted (mounted s.tree) path name (inr fits) m found) h
  dispatched_holds s (dispatch.Start w path name) fits h = go (instance_found p s.tree path) refl
    where
      go : (y : Option Mounted) → instance_found p s.tree path ≡ y → Holds p (dispatched_to p (within (dispatch.Start w path name) s) (dispatch.Start w path name) y).after
      go None found = h
      go (Some m) found = start_holds (within (dispatch.Start w path name) s) (start_lane w) path m (hook_number p m.component name) (starts_at_once w) refl found h
  dispatched_holds s (dispatch.Refresh w name) fits h = (
    refreshed_keeps p bounded.shallow bounded.declared (within (dispatch.Refresh w name) s) w (resource_number p name) h.0,
    (
      base_sent p (within (dispatch.Refresh w name) s) w (resource (resource_number p name)) op.Refresh h.1.0,
      other_facts (within (dispatch.Refresh w name) s) w (resource (resource_number p name)) op.Refresh (λ m k at flag. refl) h,
    ),
  )

  -- Steps

  -- what holds between events
  abbrev pub HoldsBetween : State → Type 0
  HoldsBetween s = Holds p s × (s.event.lane ≡ None)

  turn_holds : (s : State) (budget : Option ℕ) (r : Stretch) → Turn AnyRender p s budget r → HoldsBetween s → HoldsBetween r.after
  turn_holds s budget r t h = let after = turn_rest p bounded.shallow bounded.declared s budget r t h.1 h.0.0 h.0.1 in ((after.0, after.1), after.2)

  flushes_hold : (n : ℕ) (s : State) (r : Stretch) → Flushes AnyRender IsAtRest n p s r → HoldsBetween s → HoldsBetween r.after
  flushes_hold zero s r t h = same_after HoldsBetween r (silent s) t.1 h
  flushes_hold (suc n) s r t h = same_after HoldsBetween r (followed_by t.1 t.2) t.5 (flushes_hold n t.1.after t.2 t.4 (turn_holds s None t.1 t.3 h))

  sync_holds : (b : Bool) (s : State) (r : Stretch) → FlushSync AnyRender b p s r → HoldsBetween s → HoldsBetween r.after
  sync_holds true s r t h = turn_holds s None r t h
  sync_holds false s r t h = same_after HoldsBetween r (silent s) t h

  step_holds : (s : State) (x : Step) (r : Stretch) → has_targets p x ≡ true → StepTo AnyRender p s x r → Holds p s → Holds p r.after
  step_holds s (step.Dispatch d) r fits t h = same_after (Holds p) r _ t (dispatched_holds s d fits (event_holds p s (event_of d s.event) (dispatch_goes d s.event) h))
  step_holds s (step.Resolve name v) r fits t h =
      let b = between_holds p s h in
      same_after (Holds p) r _ t (
        resolved_keeps p bounded.shallow bounded.declared (between_events s) name v (last_value (between_events s) (resource_number p name)) b.0,
        value_rest p (between_events s) name v (last_value (between_events s) (resource_number p name)) b.1,
      )
  step_holds s (step.Tick n) r fits t h =
      let b = between_holds p s h in
      same_after (Holds p) r _ t
      (b.0, (record { tree = b.1.0.tree; counted = b.1.0.counted; lost = b.1.0.lost; owed = b.1.0.owed; next = b.1.0.next; unclaimed = b.1.0.unclaimed }, b.1.1))
  step_holds s (step.Work n) r fits t h = (turn_holds (between_events s) (Some n) r t (between_holds p s h, refl)).0
  step_holds s step.Flush r fits t h = (flushes_hold t.0 (between_events s) r t.2 (between_holds p s h, refl)).0
  step_holds s step.FlushSync r fits t h = (sync_holds (has s.schedule.pending lane.Sync) (between_events s) r t (between_holds p s h, refl)).0
  step_holds s step.Passive r fits t h = let b = between_holds p s h in same_after (Holds p) r _ t (b.0, passive_rest p (between_events s) true b.1)
  step_holds s step.Event r fits t h = same_after (Holds p) r _ t (between_holds p s h)
  step_holds s step.State r fits t h = same_after (Holds p) r _ t (between_holds p s h)
  step_holds s step.Tree r fits t h = same_after (Holds p) r _ t (between_holds p s h)

  -- Moves

  move_holds : (s : State) (x : Move) (t : State) → Fits p x → MovesTo p s x t → Holds p s → Holds p t
  move_holds s (takes x) t fits m h = subst (Holds p) (sym m.2) (step_holds s x m.0 fits m.1 h)
  move_holds s discards t fits m h = subst (Holds p) (sym m) ((h.0.0, h.0.1, h.0.2, tt, h.0.4), dropped_rest p s s.progress h.1)
  move_holds s (begins started) t fits m h = absurd fits
  move_holds s (sends w path k o) t fits m h = absurd fits
  move_holds s (refreshes w r) t fits m h = absurd fits

  moves_hold : (moves : List Move) → AllByRecursion (Fits p) moves → (t : State) → IsReachedBy p moves t → Holds p t
  moves_hold [] fits t m = subst (Holds p) (sym m) (opening_holds p)
  moves_hold (x ∷ before) fits t m = move_holds m.0 x t fits.0 m.2 (moves_hold before fits.1 m.0 m.1)

  -- It holds in each state that is reached by moves that fit.
  pub reached_holds : (s : State) → IsReachedFitting p s → Holds p s
  reached_holds s t = moves_hold t.0 t.1 s t.2

  turns_hold : (s t : State) → TurnsTo p s t → HoldsBetween s → HoldsBetween t
  turns_hold s _ here h = h
  turns_hold s _ (further t budget r more turn) h = turn_holds t budget r turn (turns_hold s t more h)

  -- And after each turn of a next step.
  pub turned_holds : (s t : State) → IsReachedFitting p s → TurnsTo p (between_events s) t → Holds p t
  turned_holds s t reached turns = (turns_hold (between_events s) t turns (between_holds p s (reached_holds s reached), refl)).0
