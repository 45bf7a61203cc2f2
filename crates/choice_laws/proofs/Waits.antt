-- After a slice of a render, until the next finish: the render goes on, or one with a higher lane does.
use Rattle.std.proofs.Common.{◌≡◌, ◌⊎◌, inl, inr, ℕ, zero, suc, ◌<◌, ◌≤◌, ◌^◌, Bool, true, false, cond, List, [], ◌∷◌, ◌++◌, Option, Some, None, map, refl, sym, ap, subst, ◌∙◌, arith, pos, ℤ}
use Rattle.std.specs.Prelude.{not, ◌&&◌, ◌||◌, IfSome, is_none, option_map}
use Rattle.std.proofs.lemmas.Fmt.{decimal_injective}
use Rattle.rx_base.specs.Values.{Name}
use Rattle.rx_ast.specs.Syntax.{Program}
use Rattle.rx_rules.specs.Names.{resource_number}
use Rattle.rx_rules.specs.Versions.{node_limit}
use Rattle.rx_lane.specs.declared.lane.Lane.{Lane}
use Rattle.rx_lane.specs.declared.lane.Lane.TheVariants as lane
use Rattle.rx_lane.specs.Lanes.{Lanes, has, one}
use Rattle.rx_lane.specs.SetLaws.{has-lanes_where}
use Rattle.rx_step.specs.Steps.{path_of, word_of}
use Rattle.rx_step.specs.declared.step.Dispatch.{Dispatch}
use Rattle.rx_step.specs.declared.step.Dispatch.TheVariants as dispatch
use Rattle.rx_step.specs.declared.step.LaneWord.{LaneWord}
use Rattle.rx_step.specs.declared.step.LaneWord.TheVariants as word
use Rattle.rx_step.specs.declared.step.Step.{Step}
use Rattle.rx_step.specs.declared.step.Step.TheVariants as step
use Rattle.rx_elem.specs.Spots.{Mounted, hidden_count}
use Rattle.rx_effect.specs.EffectLog.{passive_log}
use Rattle.rx_effect.specs.declared.log.LogLine.{LogLine}
use Rattle.rx_queue.specs.Journal.{Posted, Target, resource}
use Rattle.rx_queue.specs.declared.update.Op.{Op}
use Rattle.rx_queue.specs.declared.update.Op.TheVariants as op
use Rattle.rx_sched.specs.declared.choice.Choice.{Choice}
use Rattle.rx_sched.specs.declared.choice.Choice.TheVariants as choice
use Rattle.rx_sched.specs.Schedule.{Schedule, after_resolution, after_update, become_pending, claimed, wake}
use Rattle.rx_sched.specs.Waiting as waits
use Rattle.rx_lines.specs.Lines.{Counts, Line, end_pending, end_quiet, line_bytes, logged, report_bytes}
use Rattle.rx_model.specs.State.{Progress, State, end_line, instance_found, is_quiet}
use Rattle.rx_model.specs.Stretch.{Stretch, followed_by, silent}
use Rattle.rx_model.specs.Accepting.{accepted, between_events, dispatched_for, dispatched_to, enqueued, in_event, is_awaited_in, lane_of, last_value, next_update, op_of, resolved_as, sent_to, target_of, unset_by, with_value, within}
use Rattle.rx_model.specs.Committing.{ended, passive_run, starting}
use Rattle.rx_model.specs.Turns.{AnyRender, Continues, GoesOn, TurnBy, choice_of, gone_on, unit_bound}
use Rattle.rx_model.specs.Machine.{FlushSync, Flushes, IsAtRest, RunTo, StepTo}
use Rattle.rx_model.specs.Laws.{IsBounded}
use Rattle.choice_laws.specs.Telling.{IsFinishOf, NextIs, NextLineDecides, counted}
use Rattle.choice_laws.proofs.Firsts.{says_first}
use Rattle.choice_laws.proofs.Rising.{IsAhead, Leads, StartsAhead, ahead_higher, free_of, no_lead, starts_ahead}
use Rattle.choice_laws.proofs.Texts.{Apart, a_tree, a_value, an_effect, no_path, others_apart, quiet, states, told, waiting}

-- no render takes more units than a report can show
limit_small : (p : Program) → node_limit p ≤ 65536
limit_small p = go p.second
  where
    go : (b : Bool) → cond b 65536 4096 ≤ 65536
    go true = omega arith
    go false = omega arith

bound_small : (p : Program) → IsBounded p → unit_bound p < 2 ^ 64
bound_small p b = omega (arith, b.small, limit_small p)

-- A render with these lanes goes on, and has used so many units; or a lane is pending and not suspended that is higher than these, and the first lane of the render in progress is higher, if there is one.
data Waits (lanes : Lanes) (units : ℕ) (s : State) : Type 0 where
  goes : (g : Progress) → s.progress ≡ Some g → g.lanes ≡ lanes → units ≤ g.units → Waits lanes units s
  passed : (m : Lane) → IsAhead m lanes → has (free_of s.schedule) m ≡ true → IfSome s.progress (λ g. Leads g.lanes lanes) → Waits lanes units s

-- What changes no render, and takes away no lane that is pending and not suspended

pub record GivesMore (s t : State) : Type 0 where
  pub same : t.progress ≡ s.progress
  pub more : (m : Lane) → has (free_of s.schedule) m ≡ true → has (free_of t.schedule) m ≡ true

pub gives_both : (s t u : State) → GivesMore s t → GivesMore t u → GivesMore s u
gives_both s t u a b = record { same = b.same ∙ a.same; more = λ m h. b.more m (a.more m h) }

waits_more : (lanes : Lanes) (units : ℕ) (s t : State) → GivesMore s t → Waits lanes units s → Waits lanes units t
waits_more lanes units s t more (goes g e l u) = goes g (more.same ∙ e) l u
waits_more lanes units s t more (passed m a f k) = passed m a (more.more m f) (subst (λ (x : Option Progress). IfSome x (λ g. Leads g.lanes lanes)) (sym more.same) k)

has_free : (s : Schedule) (m : Lane) → has (free_of s) m ≡ (has s.pending m && not (has s.suspended m))
has_free s m = has-lanes_where (λ l. has s.pending l && not (has s.suspended l)) m

left_true : (a b : Bool) → (a && b) ≡ true → a ≡ true
left_true true b e = refl
left_true false b e = absurd (cc e)

-- lanes become pending, and nothing is suspended
woken_more : (s : Schedule) (now : ℕ) (m : Lane) → has (free_of s) m ≡ true → has (free_of (wake now s)) m ≡ true
woken_more s now m h =
    let pending : has s.pending m ≡ true = left_true (has s.pending m) (not (has s.suspended m)) (sym (has_free s m) ∙ h) in
    has_free (wake now s) m ∙ rw pending refl

pending_more : (s : Schedule) (now : ℕ) (lanes : Lanes) (m : Lane) → has (free_of s) m ≡ true → has (free_of (become_pending now lanes s)) m ≡ true
pending_more s now lanes m h =
    has_free (become_pending now lanes s) m
    ∙ ap (λ b. b && not (has s.suspended m)) (has-lanes_where (λ l. has s.pending l || has lanes l) m)
    ∙ both (has s.pending m) (has lanes m) (has s.suspended m) (sym (has_free s m) ∙ h)
  where
    both : (a b c : Bool) → (a && not c) ≡ true → ((a || b) && not c) ≡ true
    both true b c e = e
    both false b c e = absurd (cc e)

update_more : (s : Schedule) (l : Lane) (now : ℕ) (m : Lane) → has (free_of s) m ≡ true → has (free_of (after_update s l now)) m ≡ true
update_more s l now m h = pending_more (wake now s) now (one l) m (woken_more s now m h)

resolution_more : (s : Schedule) (name version : ℕ) (b : Bool) (now : ℕ) (m : Lane) → has (free_of s) m ≡ true → has (free_of (after_resolution s name version b now)) m ≡ true
resolution_more s name version b now m h = go b (waits.has s.waiting name version)
  where
    woken : Bool → Schedule
    woken d = cond d (wake now s) s

    inner : (d : Bool) → has (free_of (cond d (wake now s) s)) m ≡ true
    inner true = woken_more s now m h
    inner false = h

    go : (b d : Bool) → has (free_of (cond b (become_pending now (one lane.Retry) (cond d (wake now s) s)) (cond d (wake now s) s))) m ≡ true
    go true d = pending_more (cond d (wake now s) s) now (one lane.Retry) m (inner d)
    go false d = inner d

in_event_more : (w : LaneWord) (s : State) (t : Target) (l : Lane) → GivesMore s (in_event w s t l)
in_event_more word.Sync s t l = record { same = refl; more = λ m h. h }
in_event_more word.Input s t l = record { same = refl; more = λ m h. h }
in_event_more word.Default s t l = record { same = refl; more = λ m h. h }
in_event_more word.Transition s t l = record { same = refl; more = λ m h. go (is_none s.event.lane) m h }
  where
    go : (b : Bool) (m : Lane) → has (free_of s.schedule) m ≡ true → has (free_of (cond b (claimed s.schedule) s.schedule)) m ≡ true
    go true m h = h
    go false m h = h

accepted_more : (s : State) (u : Posted) → GivesMore s (accepted s u)
accepted_more s u = record { same = refl; more = λ m h. update_more s.schedule u.update.lane s.now m h }

pub sent_more : (s : State) (w : LaneWord) (t : Target) (o : Op) → GivesMore s (dispatched_for s w t o)
sent_more s w t o =
    gives_both s (in_event w s t (lane_of s w)) (dispatched_for s w t o) (in_event_more w s t (lane_of s w)) (accepted_more (in_event w s t (lane_of s w)) (next_update s.journal t o (lane_of s w)))

pub unset_more : (d : Dispatch) (t : Target) (s : State) → GivesMore s (unset_by d t s)
unset_more (dispatch.Set w path name x) t s = record { same = refl; more = λ m h. h }
unset_more (dispatch.Call w path name f x) t s = record { same = refl; more = λ m h. h }
unset_more (dispatch.Send w path name x) t s = record { same = refl; more = λ m h. h }
unset_more (dispatch.Start w path name) t s = sent_more s word.Transition t (op.Set (pos 0))
unset_more (dispatch.Refresh w name) t s = record { same = refl; more = λ m h. h }

-- Lines

-- the first of some lines is not this one
abbrev StartsOtherwise : Line → List Line → Type 0
StartsOtherwise f [] = ⊥
StartsOtherwise f (x ∷ xs) = Apart (line_bytes counted x) (line_bytes counted f)

otherwise_append : (f : Line) (xs ys : List Line) → StartsOtherwise f xs → StartsOtherwise f (xs ++ ys)
otherwise_append f [] ys h = absurd h
otherwise_append f (x ∷ xs) ys h = h

not_next : (f : Line) (xs : List Line) → StartsOtherwise f xs → NextIs (line_bytes counted f) (report_bytes counted xs) → ⊥
unfolding report_bytes
not_next f [] h n = h
not_next f (x ∷ xs) h n = h (report_bytes counted xs) n.0 n.1

-- Runs

module _ (p : Program) (bounded : IsBounded p) (lanes : Lanes) (units : ℕ) (counts : Counts) (f : Line) (is : IsFinishOf lanes counts f) (few : counts.units ≤ units) where
  -- a stretch writes nothing and leads to a state that waits, or it begins with another line
  abbrev Keeps : List Line → State → Type 0
  Keeps lines t = ((lines ≡ []) × Waits lanes units t) ⊎ StartsOtherwise f lines

  keeps_same : (r q : Stretch) → r ≡ q → Keeps q.lines q.after → Keeps r.lines r.after
  keeps_same r q e k = subst (λ (x : Stretch). Keeps x.lines x.after) (sym e) k

  keeps_followed : (a b : Stretch) → Keeps a.lines a.after → (Waits lanes units a.after → Keeps b.lines b.after) → Keeps (a.lines ++ b.lines) b.after
  keeps_followed a b (inl k) next = subst (λ (xs : List Line). Keeps (xs ++ b.lines) b.after) (sym k.0) (next k.1)
  keeps_followed a b (inr k) next = inr (otherwise_append f a.lines b.lines k)

  -- a finish with other lanes, or with more units, is another line
  other_lanes : (others : Lanes) (more : Counts) (h : Line) → Leads others lanes → IsFinishOf others more h → Apart (line_bytes counted h) (line_bytes counted f)
  other_lanes others more h leads other x y e =
      no_lead lanes (subst (λ (ls : Lanes). Leads ls lanes) (told others lanes more counts h f other is x y e).lanes_same leads)

  more_units : (others : Lanes) (more : Counts) (h : Line) → units < more.units → more.units ≤ unit_bound p → IsFinishOf others more h → Apart (line_bytes counted h) (line_bytes counted f)
  more_units others more h less bound other x y e =
      let digits = (told others lanes more counts h f other is x y e).units_same in
      let small = bound_small p bounded in
      let same : more.units ≡ counts.units = decimal_injective more.units counts.units (omega arith) (omega arith) digits in
      omega arith

  -- a render that goes on is finished with another line, or waits
  going : (s : State) (g : Progress) (budget : Option ℕ) (r : Stretch) → GoesOn AnyRender p s g budget r
      → ((more : Counts) (h : Line) → g.units < more.units → more.units ≤ unit_bound p → IsFinishOf g.lanes more h → Apart (line_bytes counted h) (line_bytes counted f))
      → ((n k : ℕ) → Waits lanes units (record s { progress = Some (gone_on g n k) }))
      → Keeps r.lines r.after
  going s g budget r (inl x, _) apart yields =
      let first = says_first s g x.counts x.tree in
      keeps_same r (ended s g x.counts x.tree) x.stretch_is
      (inr (subst (StartsOtherwise f) (sym first.3) (apart x.counts first.0 x.more_units x.in_bound first.2)))
  going s g budget r (inr y, _) apart yields = keeps_same r _ y.stretch_is (inl (refl, yields y.budget y.bodies))

  kept : (s : State) (x : Option Progress) (budget : Option ℕ) (r : Stretch) → s.progress ≡ x → Continues AnyRender p s x budget r → Waits lanes units s → Keeps r.lines r.after
  kept s None budget r e on w = absurd on
  kept s (Some g) budget r e on (goes h is_h same used) =
      let one : g ≡ h = (let both : Some g ≡ Some h = sym e ∙ is_h in cc) in
      let lanes_same : g.lanes ≡ lanes = ap (λ (x : Progress). x.lanes) one ∙ same in
      let enough : units ≤ g.units = omega (arith, used, ap (λ (x : Progress). x.units) one) in
      going s g budget r on (λ more l less bound other. more_units g.lanes more l (omega (arith, less, enough)) bound other)
      (λ n k. goes (gone_on g n k) refl lanes_same (omega (arith, enough)))
  kept s (Some g) budget r e on (passed m ahead free leads) =
      let lead : Leads g.lanes lanes = subst (λ (x : Option Progress). IfSome x (λ h. Leads h.lanes lanes)) e leads in
      going s g budget r on (λ more l less bound other. other_lanes g.lanes more l lead other) (λ n k. passed m ahead free lead)

  -- a render that starts has a higher lane first
  started_leads : (s : State) (started : Lanes) → StartsAhead s.schedule (option_map (λ g. g.lanes) s.progress) started → Waits lanes units s
      → (m : Lane) × IsAhead m lanes × (has (free_of s.schedule) m ≡ true) × Leads started lanes
  started_leads s started a w = (a.lane, ahead w, a.is_free, (a.leading, a.first, ahead_higher a.lane a.leading lanes a.leads (ahead w)))
    where
      ahead : Waits lanes units s → IsAhead a.lane lanes
      ahead (goes g e l u) =
          subst (IsAhead a.lane) l (subst (λ (x : Option Progress). IfSome (option_map (λ h. h.lanes) x) (IsAhead a.lane)) e a.ahead)
      ahead (passed m b free k) = ahead_higher m a.lane lanes (a.high m free) b

  passive_keeps : (s : State) → Waits lanes units s → Keeps (passive_run s).lines (passive_run s).after
  passive_keeps s w = go (passive_log s.passive)
    where
      after : Waits lanes units (passive_run s).after
      after = waits_more lanes units s (passive_run s).after (record { same = refl; more = λ m h. h }) w

      go : (ls : List LogLine) → Keeps (map logged ls) (passive_run s).after
      go [] = inl (refl, after)
      go (l ∷ ls) = inr (others_apart lanes counts f (logged l) is (an_effect l))

  turn : (s : State) (c : Choice) (budget : Option ℕ) (r : Stretch) → choice_of s ≡ c → TurnBy AnyRender p s c budget r → Waits lanes units s → Keeps r.lines r.after
  turn s choice.None budget r e t w = keeps_same r (silent s) t (inl (refl, w))
  turn s choice.Keep budget r e t w = kept s s.progress budget r refl t w
  turn s (choice.Start started) budget r e t w =
      let lead = started_leads s started (starts_ahead s.schedule (option_map (λ g. g.lanes) s.progress) started e) w in
      keeps_same r (followed_by (passive_run s) t.rest) t.stretch_is
      (keeps_followed (passive_run s) t.rest (passive_keeps s w) (λ after.
      going (passive_run s).after (starting s started) budget t.rest t.begins (λ more l less bound other. other_lanes started more l lead.3 other)
      (λ n k. passed lead.0 lead.1 lead.2 lead.3)))

  flushes : (n : ℕ) (s : State) (r : Stretch) → Flushes AnyRender IsAtRest n p s r → Waits lanes units s → Keeps r.lines r.after
  flushes zero s r t w = keeps_same r (silent s) t.1 (inl (refl, w))
  flushes (suc n) s r t w =
      keeps_same r (followed_by t.1 t.2) t.5
      (keeps_followed t.1 t.2 (turn s (choice_of s) None t.1 refl t.3 w) (λ after. flushes n t.1.after t.2 t.4 after))

  sync : (b : Bool) (s : State) (r : Stretch) → FlushSync AnyRender b p s r → Waits lanes units s → Keeps r.lines r.after
  sync true s r t w = turn s (choice_of s) None r refl t w
  sync false s r t w = keeps_same r (silent s) t (inl (refl, w))

  silently : (s t : State) → GivesMore s t → Waits lanes units s → Keeps [] t
  silently s t more w = inl (refl, waits_more lanes units s t more w)

  dispatches : (s : State) (d : Dispatch) (x : Option Mounted) → Waits lanes units s → Keeps (dispatched_to p s d x).lines (dispatched_to p s d x).after
  dispatches s d None w = inr (others_apart lanes counts f _ is (no_path (path_of d)))
  dispatches s d (Some m) w =
      let first = dispatched_for s (word_of d) (target_of p d m) (op_of p m.component d) in
      silently s (sent_to p s d m) (gives_both s first (sent_to p s d m) (sent_more s (word_of d) (target_of p d m) (op_of p m.component d)) (unset_more d (target_of p d m) first)) w

  queued : (s : State) (d : Dispatch) → Waits lanes units s → Keeps (enqueued p s d).lines (enqueued p s d).after
  queued s (dispatch.Set w path name x) k = dispatches s (dispatch.Set w path name x) (instance_found p s.tree path) k
  queued s (dispatch.Call w path name g x) k = dispatches s (dispatch.Call w path name g x) (instance_found p s.tree path) k
  queued s (dispatch.Send w path name x) k = dispatches s (dispatch.Send w path name x) (instance_found p s.tree path) k
  queued s (dispatch.Start w path name) k = dispatches s (dispatch.Start w path name) (instance_found p s.tree path) k
  queued s (dispatch.Refresh w name) k = silently s _ (sent_more s w (resource (resource_number p name)) op.Refresh) k

  resolves : (s : State) (name : Name) (v : ℤ) (x : Option ℤ) → Waits lanes units s → Keeps (resolved_as p s name v x).lines (resolved_as p s name v x).after
  resolves s name v None w =
      silently s (with_value s (resource_number p name) v)
      (record { same = refl; more = λ m h. resolution_more s.schedule (resource_number p name) _ (is_awaited_in s (resource_number p name) _) s.now m h }) w
  resolves s name v (Some y) w = inr (others_apart lanes counts f _ is (a_value name y))

  same_free : (s t : State) → t.progress ≡ s.progress → t.schedule ≡ s.schedule → Waits lanes units s → Waits lanes units t
  same_free s t e k w = waits_more lanes units s t (record { same = e; more = λ m h. subst (λ (x : Schedule). has (free_of x) m ≡ true) (sym k) h }) w

  takes_step : (s : State) (x : Step) (r : Stretch) → StepTo AnyRender p s x r → Waits lanes units s → Keeps r.lines r.after
  takes_step s (step.Dispatch d) r t w = keeps_same r _ t (queued (within d s) d (same_free s (within d s) refl refl w))
  takes_step s (step.Resolve name v) r t w =
      keeps_same r _ t (resolves (between_events s) name v (last_value (between_events s) (resource_number p name)) (same_free s (between_events s) refl refl w))
  takes_step s (step.Tick n) r t w = keeps_same r _ t (inl (refl, same_free s _ refl refl w))
  takes_step s (step.Work n) r t w = turn (between_events s) (choice_of (between_events s)) (Some n) r refl t (same_free s (between_events s) refl refl w)
  takes_step s step.Flush r t w = flushes t.0 (between_events s) r t.2 (same_free s (between_events s) refl refl w)
  takes_step s step.FlushSync r t w = sync (has s.schedule.pending lane.Sync) (between_events s) r t (same_free s (between_events s) refl refl w)
  takes_step s step.Passive r t w = keeps_same r _ t (passive_keeps (between_events s) (same_free s (between_events s) refl refl w))
  takes_step s step.Event r t w = keeps_same r _ t (inl (refl, same_free s _ refl refl w))
  takes_step s step.State r t w = keeps_same r _ t (inr (others_apart lanes counts f _ is states))
  takes_step s step.Tree r t w = keeps_same r _ t (inr (others_apart lanes counts f _ is a_tree))

  ends : (s : State) → StartsOtherwise f (end_line s ∷ [])
  ends s = go (is_quiet s)
    where
      go : (b : Bool) → StartsOtherwise f (cond b end_quiet (end_pending s.schedule.pending (hidden_count s.tree)) ∷ [])
      go true = others_apart lanes counts f end_quiet is quiet
      go false = others_apart lanes counts f (end_pending s.schedule.pending (hidden_count s.tree)) is (waiting s.schedule.pending (hidden_count s.tree))

  -- so no run from a state that waits writes this line next
  runs : (s : State) (steps : List Step) (r : Stretch) → RunTo AnyRender p s steps r → Waits lanes units s → StartsOtherwise f (r.lines ++ end_line r.after ∷ [])
  runs s [] r t w = subst (λ (x : Stretch). StartsOtherwise f (x.lines ++ end_line x.after ∷ [])) (sym t) (ends s)
  runs s (x ∷ xs) r t w =
      subst (λ (x : Stretch). StartsOtherwise f (x.lines ++ end_line x.after ∷ [])) (sym t.4)
      (go (takes_step s x t.0 t.2 w) (λ after. runs t.0.after xs t.1 t.3 after))
    where
      go : Keeps t.0.lines t.0.after → (Waits lanes units t.0.after → StartsOtherwise f (t.1.lines ++ end_line t.1.after ∷ []))
          → StartsOtherwise f ((t.0.lines ++ t.1.lines) ++ end_line t.1.after ∷ [])
      go (inl k) next = subst (λ (ls : List Line). StartsOtherwise f ((ls ++ t.1.lines) ++ end_line t.1.after ∷ [])) (sym k.0) (next k.1)
      go (inr k) next = otherwise_append f (t.0.lines ++ t.1.lines) (end_line t.1.after ∷ []) (otherwise_append f t.0.lines t.1.lines k)

-- the next line decides
pub next_line_decides : (p : Program) → NextLineDecides p
next_line_decides p bounded s g e counts f is few steps r run next =
    not_next f (r.lines ++ end_line r.after ∷ []) (runs p bounded g.lanes g.units counts f is few s steps r run (goes g e refl (omega arith))) next
