-- What each step keeps of lanes, updates and resources, in each state of a run.
use Rattle.std.specs.Prelude.{Bool, IfSome, List, None, Option, Some, [], false, if◌then◌else◌, is_none, is_some, length, nat_eq, option_map, refl, true, ℕ, ℤ, ◌&&◌, ◌||◌, ◌++◌, ◌∷◌, ◌≡◌, ◌≤◌}
use Rattle.std.proofs.Common.{ap, arith, inl, inr, subst, sym, ◌∙◌}
use Rattle.rx_ast.specs.Syntax.{Program}
use Rattle.rx_base.specs.Awaits.{Awaits}
use Rattle.rx_base.specs.Awaits as awaits
use Rattle.rx_queue.specs.Pairs.{Pair, in_versions}
use Rattle.rx_base.specs.Values.{Name}
use Rattle.rx_base.specs.declared.cut.Cut.{Cut}
use Rattle.rx_rules.specs.Bounds.{depth_bound}
use Rattle.rx_rules.specs.Names.{resource_number}
use Rattle.rx_rules.specs.Reads.{ReadsDeclared}
use Rattle.rx_elem.specs.Compare.{Change}
use Rattle.rx_elem.specs.Numbers.{numbered}
use Rattle.rx_elem.specs.Spots.{Mounted, kept_instances, visible_instances}
use Rattle.rx_elem.specs.Trees.{Node}
use Rattle.rx_elem.proofs.Deciding.{both_hold, same_itself}
use Rattle.rx_meaning.specs.Again.{AccountedBefore}
use Rattle.rx_meaning.specs.Fresh.{depth_limit, fresh, made}
use Rattle.rx_meaning.specs.Outcome.{Outcome, all_awaits, awaits_resolved, commit, defer, is_awaited, journal_after, newly_hidden, outcome, outcome_by, still_pending, visible_awaits}
use Rattle.rx_meaning.specs.Settled.{IfSettled, Known, TargetsBelow, version_done}
use Rattle.rx_hooks.specs.Hooks.{links_with}
use Rattle.rx_lane.specs.Lanes.{Lanes, has, lanes_where, minus, no_lanes, one, only_transitions, union}
use Rattle.rx_lane.specs.SetLaws.{has-lanes_where}
use Rattle.rx_lane.specs.declared.lane.Lane.{Lane}
use Rattle.rx_lane.specs.declared.lane.Lane.TheVariants as lane
use Rattle.rx_model.specs.Accepting.{accepted, dispatched_for, is_awaited_in, lane_of, last_value, next_update, op_of, resolved_as, target_of, with_linked, with_transition}
use Rattle.rx_model.specs.Committing.{committed_state, ended, ended_by, passive_run, sight_of, starting}
use Rattle.rx_model.specs.Kept.{IsSet, NoUpdateIsLost}
use Rattle.rx_model.specs.Laws.{IsReached}
use Rattle.rx_model.specs.State.{Progress, State, linked_lanes, opening}
use Rattle.rx_model.specs.Stretch.{Stretch, followed_by, silent}
use Rattle.rx_model.specs.Turns.{AnyRender, Continues, GoesOn, TurnBy, choice_of, gone_on}
use Rattle.rx_queue.specs.Journal.{Posted, Resolution, Target, done_version, has_later, hook, next_version, resolved_by, resolved_now, resolved_since, resource, values_in, version_of}
use Rattle.rx_queue.specs.declared.update.Op.{Op}
use Rattle.rx_queue.specs.declared.update.Op.TheVariants as op
use Rattle.rx_sched.specs.Waiting as waiting
use Rattle.rx_lines.specs.Lines.{Counts}
use Rattle.rx_sched.specs.Schedule.{Schedule, after_deferral, after_update, become_pending, claimed, linked, wake}
use Rattle.rx_sched.specs.declared.choice.Choice.{Choice}
use Rattle.rx_sched.specs.declared.choice.Choice.TheVariants as choice
use Rattle.rx_step.specs.Steps.{word_of}
use Rattle.rx_step.specs.declared.step.Dispatch.{Dispatch}
use Rattle.rx_step.specs.declared.step.LaneWord.{LaneWord}
use Rattle.rx_step.specs.declared.step.LaneWord.TheVariants as word
use Rattle.commit_laws.proofs.NewlyHidden.{awaited_open, committed_open, deferred_open}
use Rattle.commit_laws.proofs.Settling.{versions_are_done}
use Rattle.commit_laws.proofs.VersionsStay.{open_versions}
use Rattle.commit_laws.proofs.NoneLost.{commit_none_lost, more_pending, one_itself, push_pending, union_left, union_right}
use Rattle.run_laws.proofs.AlongRuns.{commit_is, hook_keeps, opening_carries, refreshed_keeps, resolved_keeps, turn_keeps}
use Rattle.run_laws.proofs.Carrying.{done_before, start_renders}
use Rattle.run_laws.proofs.DueLanes.{DueIn, due_more, set_of, start_due}
use Rattle.run_laws.proofs.Keeping.{AskedFor, Numbered, Retries, Waits, asked_marked, asked_push, asked_resolved, commit_retries, commit_waits, deferral_waits, marked_numbered, more_waits, next_is, none_waits, now_stays, push_numbered, resolution_retries}
use Rattle.run_laws.proofs.Walk.{holds_along, same_after}
use Rattle.run_laws.specs.Carried.{Carries, IsCarried, RendersOn}

-- what is kept of lanes, updates and resources
abbrev pub Keeps : State → Type 0
Keeps s =
    IsSet s.schedule.pending × Numbered s.journal.updates × NoUpdateIsLost s × Waits s.schedule s.journal × Retries s.tree s.schedule.pending s.journal
    × IfSome s.progress (λ g. DueIn s.schedule g.lanes) × AskedFor s.journal

opening_kept : Keeps opening
opening_kept = (
  set_of (λ l. has no_lanes l || has (one lane.Default) l),
  λ n u there. absurd (cc there),
  λ n u there mounted. absurd (cc there),
  none_waits opening.schedule opening.journal refl refl,
  λ r there now. absurd (cc there),
  tt,
  λ r. omega arith,
)

passive_kept : (s : State) (b : Bool) → Keeps s → Keeps (if b then passive_run s else silent s).after
passive_kept s true h = h
passive_kept s false h = h

-- Dispatches

union_set : (a b : Lanes) → IsSet (union a b)
union_set a b = set_of (λ l. has a l || has b l)

accepted_kept : (s : State) (t : Target) (o : Op) (l : Lane) → Keeps s → Keeps (accepted s (next_update s.journal t o l))
accepted_kept s t o l h = (
  union_set s.schedule.pending (one l),
  push_numbered s.journal.updates (next_update s.journal t o l) refl h.1,
  push_pending s.tree s.journal.updates (next_update s.journal t o l) (union s.schedule.pending (one l))
      (union_right s.schedule.pending (one l) l (one_itself l))
      (more_pending s.tree s.journal.updates s.schedule.pending (union s.schedule.pending (one l)) more h.2),
  none_waits (after_update s.schedule l s.now) (record s.journal { updates = s.journal.updates ++ next_update s.journal t o l ∷ [] }) refl refl,
  λ r there now. more lane.Retry (h.4 r there (ap (λ (v : ℕ). is_some (resolved_now s.journal r v)) (sym (done_stays r)) ∙ now)),
  due s.progress h.5,
  asked_push s.journal.updates s.journal.resolutions (next_update s.journal t o l) h.6,
)
  where
    -- a new update is open, and so no version that is done
    done_stays : (r : ℕ) → version_done (s.journal.updates ++ next_update s.journal t o l ∷ []) r ≡ version_done s.journal.updates r
    done_stays r = open_versions s.journal.updates (next_update s.journal t o l ∷ []) (refl, refl, tt) r

    more : (m : Lane) → has s.schedule.pending m ≡ true → has (union s.schedule.pending (one l)) m ≡ true
    more m k = union_left s.schedule.pending (one l) m k

    due : (x : Option Progress) → IfSome x (λ g. DueIn s.schedule g.lanes) → IfSome x (λ g. DueIn (after_update s.schedule l s.now) g.lanes)
    due None d = tt
    due (Some g) d = due_more s.schedule (after_update s.schedule l s.now) g.lanes more (λ m k. absurd (cc k)) d

transition_kept : (s : State) (t : Target) (l : Lane) → Keeps s → Keeps (with_transition s t l)
transition_kept s t l h = go (is_none s.event.lane)
  where
    go : (b : Bool) → Keeps (record s {
      schedule = linked (if b then claimed s.schedule else s.schedule) (links_with l s.schedule.pending (linked_lanes s.linked t));
      linked = with_linked s.linked t (links_with l s.schedule.pending (linked_lanes s.linked t));
      event = record s.event { lane = Some l };
    })
    go true = h
    go false = h

sent_kept : (s : State) (w : LaneWord) (t : Target) (o : Op) → Keeps s → Keeps (dispatched_for s w t o)
sent_kept s word.Sync t o h = accepted_kept s t o (lane_of s word.Sync) h
sent_kept s word.Input t o h = accepted_kept s t o (lane_of s word.Input) h
sent_kept s word.Default t o h = accepted_kept s t o (lane_of s word.Default) h
sent_kept s word.Transition t o h =
    accepted_kept (with_transition s t (lane_of s word.Transition)) t o (lane_of s word.Transition) (transition_kept s t (lane_of s word.Transition) h)

refreshed_kept : (s : State) (w : LaneWord) (r : ℕ) → Keeps s → Keeps (dispatched_for s w (resource r) op.Refresh)
refreshed_kept s w r h = sent_kept s w (resource r) op.Refresh h

-- Resolutions

-- the schedule after a resolution, by whether lanes wait for the resource and whether a boundary does
abbrev resolved_by_tests : Schedule → ℕ → (waits boundary : Bool) → Schedule
resolved_by_tests sch now waits boundary =
    let woken = if waits then wake now sch else sch in
    if boundary then become_pending now (one lane.Retry) woken else woken

resolution_set : (sch : Schedule) (now : ℕ) (waits boundary : Bool) → IsSet sch.pending → IsSet (resolved_by_tests sch now waits boundary).pending
resolution_set sch now true true h = union_set sch.pending (one lane.Retry)
resolution_set sch now false true h = union_set sch.pending (one lane.Retry)
resolution_set sch now true false h = h
resolution_set sch now false false h = h

resolution_more : (sch : Schedule) (now : ℕ) (waits boundary : Bool) (l : Lane) → has sch.pending l ≡ true → has (resolved_by_tests sch now waits boundary).pending l ≡ true
resolution_more sch now true true l h = union_left sch.pending (one lane.Retry) l h
resolution_more sch now false true l h = union_left sch.pending (one lane.Retry) l h
resolution_more sch now true false l h = h
resolution_more sch now false false l h = h

resolution_less : (sch : Schedule) (now : ℕ) (waits boundary : Bool) (l : Lane) → has (resolved_by_tests sch now waits boundary).suspended l ≡ true → has sch.suspended l ≡ true
resolution_less sch now true true l h = absurd (cc h)
resolution_less sch now true false l h = absurd (cc h)
resolution_less sch now false true l h = h
resolution_less sch now false false l h = h

resolution_retry : (sch : Schedule) (now : ℕ) (waits boundary : Bool) → boundary ≡ true → has (resolved_by_tests sch now waits boundary).pending lane.Retry ≡ true
resolution_retry sch now true true h = union_right sch.pending (one lane.Retry) lane.Retry (one_itself lane.Retry)
resolution_retry sch now false true h = union_right sch.pending (one lane.Retry) lane.Retry (one_itself lane.Retry)
resolution_retry sch now waits false h = absurd (cc h)

resolution_waits : (sch : Schedule) (now : ℕ) (us : List Posted) (xs : List Resolution) (x : Resolution) (waits boundary : Bool)
    → waiting.has sch.waiting x.resource (length (values_in xs x.resource)) ≡ waits
    → Waits sch (record { updates = us; resolutions = xs }) → Waits (resolved_by_tests sch now waits boundary) (record { updates = us; resolutions = xs ++ x ∷ [] })
resolution_waits sch now us xs x true true e w = none_waits (resolved_by_tests sch now true true) (record { updates = us; resolutions = xs ++ x ∷ [] }) refl refl
resolution_waits sch now us xs x true false e w = none_waits (resolved_by_tests sch now true false) (record { updates = us; resolutions = xs ++ x ∷ [] }) refl refl
resolution_waits sch now us xs x false boundary e w = go boundary
  where
    other : (r v : ℕ) → waiting.has sch.waiting r v ≡ true → x.resource ≡ r → v ≡ length (values_in xs r) → ⊥
    other r v h same also =
        let next : waiting.has sch.waiting r (length (values_in xs r)) ≡ true = subst (λ (n : ℕ). waiting.has sch.waiting r n ≡ true) also h in
        clash next (subst (λ (q : ℕ). waiting.has sch.waiting q (length (values_in xs q)) ≡ false) same e)
      where
        clash : {b : Bool} → b ≡ true → b ≡ false → ⊥
        clash y z = cc (y, z)

    same : (r v : ℕ) → waiting.has sch.waiting r v ≡ true
        → resolved_now (record { updates = us; resolutions = xs ++ x ∷ [] }) r v ≡ resolved_now (record { updates = us; resolutions = xs }) r v
    same r v h = now_stays us xs x r v (other r v h)

    go : (b : Bool) → Waits (resolved_by_tests sch now false b) (record { updates = us; resolutions = xs ++ x ∷ [] })
    go true =
        more_waits sch (resolved_by_tests sch now false true) (record { updates = us; resolutions = xs }) (record { updates = us; resolutions = xs ++ x ∷ [] })
        (λ l h. resolution_more sch now false true l h) refl refl same w
    go false =
        more_waits sch sch (record { updates = us; resolutions = xs }) (record { updates = us; resolutions = xs ++ x ∷ [] }) (λ l h. h) refl refl same w

resolved_kept : (p : Program) (s : State) (name : Name) (v : ℤ) (x : Option ℤ) → last_value s (resource_number p name) ≡ x → Keeps s → Keeps (resolved_as p s name v x).after
resolved_kept p s name v (Some y) e h = h
resolved_kept p s name v None e h = (
  resolution_set s.schedule s.now waits boundary h.0,
  h.1,
  more_pending s.tree s.journal.updates s.schedule.pending (resolved_by_tests s.schedule s.now waits boundary).pending more h.2,
  resolution_waits s.schedule s.now s.journal.updates s.journal.resolutions new waits boundary (ap (waiting.has s.schedule.waiting r) (sym next)) h.3,
  resolution_retries s.tree s.journal.updates s.journal.resolutions new
      s.schedule.pending (resolved_by_tests s.schedule s.now waits boundary).pending more (λ there done. resolution_retry s.schedule s.now waits boundary (is_due there done)) h.4,
  due s.progress h.5,
  asked_resolved s.journal.updates s.journal.resolutions new e h.6,
)
  where
    r : ℕ
    r = resource_number p name

    new : Resolution
    new = record { resource = r; value = v }

    next : next_version s.journal r ≡ length (values_in s.journal.resolutions r)
    next = next_is s.journal r

    waits : Bool
    waits = waiting.has s.schedule.waiting r (next_version s.journal r)

    boundary : Bool
    boundary = is_awaited_in s r (next_version s.journal r)

    is_due : is_awaited s.tree r ≡ true → done_version s.journal r ≡ length (values_in s.journal.resolutions r) → boundary ≡ true
    is_due there done =
        both_hold (is_awaited s.tree r) (nat_eq (done_version s.journal r) (next_version s.journal r)) there
        (subst (λ (n : ℕ). nat_eq (done_version s.journal r) n ≡ true) (done ∙ sym next) (same_itself (done_version s.journal r)))

    more : (l : Lane) → has s.schedule.pending l ≡ true → has (resolved_by_tests s.schedule s.now waits boundary).pending l ≡ true
    more l k = resolution_more s.schedule s.now waits boundary l k

    due : (x : Option Progress) → IfSome x (λ g. DueIn s.schedule g.lanes) → IfSome x (λ g. DueIn (resolved_by_tests s.schedule s.now waits boundary) g.lanes)
    due None d = tt
    due (Some g) d =
        due_more s.schedule (resolved_by_tests s.schedule s.now waits boundary) g.lanes more (λ l k. resolution_less s.schedule s.now waits boundary l k) d

-- The end of a render

-- a deferral has transition lanes alone, and waits for what it would hide anew
defer_is : (lanes : Lanes) (old : Option Node) (tree : Node) (a : Awaits) → outcome lanes old tree ≡ defer a → (only_transitions lanes ≡ true) × (all_awaits (newly_hidden old tree) ≡ a)
defer_is lanes old tree a h = go (newly_hidden old tree) h
  where
    waits_or : (b : Bool) (w : Awaits) → only_transitions lanes ≡ b → (if b then defer w else commit tree) ≡ defer a → (only_transitions lanes ≡ true) × (w ≡ a)
    waits_or true w e f = (e, cc)
    waits_or false w e f = absurd (cc f)

    go : (cs : List Change) → outcome_by lanes tree cs ≡ defer a → (only_transitions lanes ≡ true) × (all_awaits cs ≡ a)
    go [] e = absurd (cc e)
    go (c ∷ cs) e = waits_or (only_transitions lanes) (all_awaits (c ∷ cs)) refl e

module _ (p : Program) (deep : depth_bound p ≤ depth_limit) (declared : ReadsDeclared p) where
  deferred_kept : (s : State) (g : Progress) (counts : Counts) (tree : Node) (a : Awaits) → fresh (sight_of p s g) s.tree ≡ made tree → (k : Known) → IfSettled p k s.tree
      → outcome g.lanes s.tree tree ≡ defer a → DueIn s.schedule g.lanes → Keeps s → Keeps (ended_by s g counts (defer a)).after
  deferred_kept s g counts tree a gives k settled e due h = go (resolved_since g.cut s.journal pairs) refl
    where
      parts : (only_transitions g.lanes ≡ true) × (all_awaits (newly_hidden s.tree tree) ≡ a)
      parts = defer_is g.lanes s.tree tree a e

      version : ℕ → ℕ
      version r = version_of g.lanes g.cut s.journal r

      pairs : List Pair
      pairs = in_versions version a

      none : (r : ℕ) → awaits.has a r ≡ true → resolved_by g.cut s.journal r (version r) ≡ None
      none r there = deferred_open (sight_of p s g) k s.tree tree deep settled gives r (ap (λ (w : Awaits). awaits.has w r) parts.1 ∙ there)

      go : (b : Bool) → resolved_since g.cut s.journal pairs ≡ b
          → Keeps (record s { schedule = if b then s.schedule else after_deferral s.schedule g.lanes pairs s.now; progress = None })
      go true f = (h.0, h.1, h.2, h.3, h.4, tt, h.6)
      go false f = (h.0, h.1, h.2, deferral_waits s.schedule g.lanes g.cut s.journal version a s.now due parts.0 f none h.3, h.4, tt, h.6)

  committed_kept : (s : State) (g : Progress) (new : Node) → fresh (sight_of p s g) s.tree ≡ made new
      → AccountedBefore g.cut s.journal.updates → TargetsBelow s.numbers.instance s.journal.updates → Keeps s → Keeps (committed_state s g (numbered s.numbers new))
  committed_kept s g new gives accounted targets h = (
    union_set (minus s.schedule.pending g.lanes) still,
    marked_numbered g.lanes g.cut (visible_instances (Some tree)) (kept_instances (Some tree)) s.journal.updates h.1,
    commit_none_lost (sight_of p s g) s.tree new s.numbers s.schedule.pending still gives accounted targets comes h.2,
    commit_waits s.schedule g.lanes still s.now s.journal (journal_after g.lanes g.cut tree s.journal) (λ r v. refl) h.3,
    commit_retries tree g.lanes g.cut s.journal (journal_after g.lanes g.cut tree s.journal) (union (minus s.schedule.pending g.lanes) still)
        (λ r there. awaited_open (sight_of p s g) (visible_awaits (Some tree)) (committed_open (sight_of p s g) s.tree new s.numbers deep gives) r there) (λ r v. refl)
        (versions_are_done (sight_of p s g) (visible_instances (Some tree)) (kept_instances (Some tree)) (done_before g.cut s.journal.updates accounted)) retried,
    tt,
    asked_marked g.lanes g.cut (visible_instances (Some tree)) (kept_instances (Some tree)) s.journal h.6,
  )
    where
      tree : Node
      tree = (numbered s.numbers new).1

      still : Lanes
      still = still_pending g.lanes g.cut s.journal tree

      again : Lanes
      again = lanes_where (λ l. has g.lanes l && has_later g.cut s.journal l)

      comes : (l : Lane) → has g.lanes l ≡ true → has_later g.cut s.journal l ≡ true → has still l ≡ true
      comes l h k =
          union_left again (if awaits_resolved g.lanes g.cut s.journal tree then one lane.Retry else no_lanes) l
          (has-lanes_where (λ x. has g.lanes x && has_later g.cut s.journal x) l ∙ both_hold (has g.lanes l) (has_later g.cut s.journal l) h k)

      pick : (b : Bool) → b ≡ true → has (if b then one lane.Retry else no_lanes) lane.Retry ≡ true
      pick true e = one_itself lane.Retry
      pick false e = absurd (cc e)

      retried : awaits_resolved g.lanes g.cut s.journal tree ≡ true → has (union (minus s.schedule.pending g.lanes) still) lane.Retry ≡ true
      retried e =
          union_right (minus s.schedule.pending g.lanes) still lane.Retry
          (union_right again (if awaits_resolved g.lanes g.cut s.journal tree then one lane.Retry else no_lanes) lane.Retry (pick (awaits_resolved g.lanes g.cut s.journal tree) e))

  ended_kept : (s : State) (g : Progress) (counts : Counts) (tree : Node) → fresh (sight_of p s g) s.tree ≡ made tree
      → (known : List Resolution) (last : Cut) → Carries p s.journal s.numbers s.tree known last → RendersOn p s.journal known last g.lanes g.cut
      → DueIn s.schedule g.lanes → Keeps s → Keeps (ended s g counts tree).after
  ended_kept s g counts tree gives known last c r due h = go (outcome g.lanes s.tree tree) refl
    where
      go : (o : Outcome) → outcome g.lanes s.tree tree ≡ o → Keeps (ended_by s g counts o).after
      go (defer a) e = deferred_kept s g counts tree a gives (record { updates = s.journal.updates; resolutions = known }) c.sound.settled e due h
      go (commit new) e =
          let same : new ≡ tree = commit_is p deep declared g.lanes s.tree tree new e in
          passive_kept (committed_state s g (numbered s.numbers new)) (has g.lanes lane.Sync)
          (committed_kept s g new (gives ∙ ap made (sym same)) r.accounted c.sound.targets h)

  -- Turns

  going_kept : (s : State) (g : Progress) (budget : Option ℕ) (r : Stretch) → GoesOn AnyRender p s g budget r
      → (known : List Resolution) (last : Cut) → Carries p s.journal s.numbers s.tree known last → RendersOn p s.journal known last g.lanes g.cut
      → DueIn s.schedule g.lanes → Keeps s → Keeps r.after
  going_kept s g budget r (inl f, _) known last c on due h =
      same_after Keeps r (ended s g f.counts f.tree) f.stretch_is (ended_kept s g f.counts f.tree f.rendered known last c on due h)
  going_kept s g budget r (inr y, _) known last c on due h =
      same_after Keeps r (record { lines = []; bodies = y.bodies; after = record s { progress = Some (gone_on g y.budget y.bodies) } }) y.stretch_is
      (h.0, h.1, h.2, h.3, h.4, due, h.6)

  -- a turn, if a render that starts is due
  turn_by_kept : (s : State) (x : Choice) → ((lanes : Lanes) → x ≡ choice.Start lanes → DueIn s.schedule lanes) → (budget : Option ℕ) (r : Stretch) → TurnBy AnyRender p s x budget r
      → IsCarried p s → Keeps s → Keeps r.after
  turn_by_kept s choice.None due budget r is c h = same_after Keeps r (silent s) is h
  turn_by_kept s choice.Keep due budget r on c h = go s.progress c.3 h.5 on
    where
      go : (x : Option Progress) → IfSome x (λ g. RendersOn p s.journal c.0 c.1 g.lanes g.cut) → IfSome x (λ g. DueIn s.schedule g.lanes) → Continues AnyRender p s x budget r → Keeps r.after
      go None e d k = absurd k
      go (Some g) e d k = going_kept s g budget r k c.0 c.1 c.2 e d h
  turn_by_kept s (choice.Start lanes) due budget r starts c h =
      same_after Keeps r (followed_by (passive_run s) starts.rest) starts.stretch_is
      (going_kept (passive_run s).after (starting s lanes) budget starts.rest starts.begins c.0 c.1 c.2 (start_renders p s.journal s.numbers s.tree lanes c.0 c.1 c.2) (due lanes refl) h)

  turn_kept : (s : State) (budget : Option ℕ) (r : Stretch) → TurnBy AnyRender p s (choice_of s) budget r → IsCarried p s → Keeps s → Keeps r.after
  turn_kept s budget r t c h =
      turn_by_kept s (choice_of s) (λ lanes e. start_due s.schedule (option_map (λ g. g.lanes) s.progress) lanes e) budget r t c h

  -- It is kept in each state that can be reached.
  pub reached_keeps : (s : State) → IsReached p s → Keeps s
  reached_keeps s t =
      (holds_along p (λ s. IsCarried p s × Keeps s)
      (record {
        starts = (opening_carries p, opening_kept);
        events = λ s e h. h;
        ticks = λ s n h. h;
        passive = λ s h. h;
        turns = λ s budget r t h. (turn_keeps p deep declared s (choice_of s) budget r t h.0, turn_kept s budget r t h.0 h.1);
        sends = λ s w path m k o e h. (hook_keeps p deep declared s w path m k o e h.0, sent_kept s w (hook m.number k) o h.1);
        refreshes = λ s w r h. (refreshed_keeps p deep declared s w r h.0, refreshed_kept s w r h.1);
        resolves = λ s name v x e h. (resolved_keeps p deep declared s name v x h.0, resolved_kept p s name v x e h.1);
        discards = λ s h. ((h.0.0, h.0.1, h.0.2, tt, h.0.4), (h.1.0, h.1.1, h.1.2, h.1.3, h.1.4, tt, h.1.6));
      }) s t).1
