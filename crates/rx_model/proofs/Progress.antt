-- Runs go on: each turn can be taken, a flush ends, and each step can be taken.
use Rattle.std.proofs.Common.{◌≡◌, ◌≢◌, ◌⊎◌, inl, inr, ℕ, zero, suc, ◌+◌, ◌<◌, ◌≤◌, Bool, true, false, cond, List, [], ◌∷◌, ◌++◌, ℤ, length, map, refl, sym, ap, ◌∙◌, subst, arith, Option, Some, None, pos}
use Rattle.std.specs.Prelude.{not, ◌&&◌, ◌||◌, IfSome, is_some, option_map, nat_le}
use Rattle.std.specs.List.{list_any, AllByRecursion}
use Rattle.std.proofs.lemmas.List.{length-map}
use Rattle.std.proofs.lemmas.Bool.Decides.{nat_tests}
use Rattle.rx_base.specs.Values.{Name}
use Rattle.rx_base.specs.Awaits.{Awaits}
use Rattle.rx_base.specs.declared.cut.Cut.{Cut}
use Rattle.rx_lane.specs.declared.lane.Lane.{Lane}
use Rattle.rx_lane.specs.declared.lane.Lane.TheVariants as lane
use Rattle.rx_lane.specs.Lanes.{Lanes, has, same_lane, is_transition, lanes_where, no_lanes, one, union, minus, intersection, transitions}
use Rattle.rx_lane.specs.SetLaws.{lanes_agree, has-lanes_where}
use Rattle.rx_ast.specs.Syntax.{Program}
use Rattle.rx_rules.specs.Names.{resource_number}
use Rattle.rx_step.specs.declared.step.LaneWord.{LaneWord}
use Rattle.rx_step.specs.declared.step.LaneWord.TheVariants as word
use Rattle.rx_step.specs.declared.step.Dispatch.{Dispatch}
use Rattle.rx_step.specs.declared.step.Dispatch.TheVariants as dispatch
use Rattle.rx_step.specs.declared.step.Step.{Step}
use Rattle.rx_step.specs.declared.step.Step.TheVariants as step
use Rattle.rx_step.specs.Steps.{word_of}
use Rattle.rx_elem.specs.Trees.{Node}
use Rattle.rx_elem.specs.Spots.{Mounted}
use Rattle.rx_elem.specs.Numbers.{numbered}
use Rattle.rx_queue.specs.declared.update.Op.{Op}
use Rattle.rx_queue.specs.declared.update.Op.TheVariants as op
use Rattle.rx_queue.specs.Pairs.{Pair, in_versions}
use Rattle.rx_sched.specs.Waiting.{Waiting}
use Rattle.rx_queue.specs.Journal.{Target, resource, Posted, Journal, cut_now, marked_update, has_later, resolved_by, resolved_since, version_of}
use Rattle.rx_sched.specs.declared.choice.Choice.{Choice}
use Rattle.rx_sched.specs.declared.choice.Choice.TheVariants as choice
use Rattle.rx_sched.specs.Links.{Links, one_link_on, links_on}
use Rattle.rx_sched.specs.Schedule.{Schedule, after_commit, after_deferral, choose, same_rank, with_default, lanes_to_start}
use Rattle.rx_meaning.specs.Outcome.{Outcome, commit, defer, outcome, still_pending, visible_awaits}
use Rattle.rx_lines.specs.Lines.{Counts}
use Rattle.rx_model.specs.State.{State, Progress, opening, instance_found}
use Rattle.rx_model.specs.Stretch.{Stretch, silent, followed_by}
use Rattle.rx_model.specs.Accepting.{accepted, dispatched, dispatched_to, dispatched_for, enqueued, in_event, lane_of, next_update, op_of, target_of, resolved, resolved_as, last_value, between_events, unset_by, within}
use Rattle.rx_model.specs.Committing.{passive_run, starting, sight_of, committed_state, ended, ended_by}
use Rattle.rx_model.specs.Turns.{AnyRender, unit_bound, slice_of, Finishes, Yields, gone_on, Continues, TurnBy, Turn, choice_of}
use Rattle.rx_model.specs.Machine.{IsAtRest, Flushes, Flush, FlushSync, StepTo}
use Rattle.rx_model.specs.Kept.{CanGoOn}
use Rattle.rx_model.specs.Laws.{NeverWaits, GoesOnFrom}
use Rattle.rx_model.proofs.LaneSets.{has-first, has-one, length-where-le, length-minus-falls}

-- ---- updates lie before a cut that is made now

abbrev Below : ℕ → List Posted → Type 0
Below b us = AllByRecursion (λ u. u.update.number < b) us

below-marked : (b : ℕ) (lanes : Lanes) (cut : Cut) (visible kept : List ℕ) (us : List Posted) → Below b us → Below b (map (marked_update lanes cut visible kept) us)
below-marked b lanes cut visible kept [] all = all
below-marked b lanes cut visible kept (u ∷ us) all = (all.0, below-marked b lanes cut visible kept us all.1)

below-more : (b c : ℕ) (us : List Posted) → b ≤ c → Below b us → Below c us
below-more b c [] h all = all
below-more b c (u ∷ us) h all = (omega (arith, all.0), below-more b c us h all.1)

below-append : (b : ℕ) (us : List Posted) (u : Posted) → Below b us → u.update.number < b → Below b (us ++ u ∷ [])
below-append b [] u all h = (h, tt)
below-append b (v ∷ us) u all h = (all.0, below-append b us u all.1 h)

length-append : (us : List Posted) (u : Posted) → length (us ++ u ∷ []) ≡ length us + 1
length-append [] u = refl
length-append (v ∷ us) u = let rest : length (us ++ u ∷ []) ≡ length us + 1 = length-append us u in omega (arith, rest)

-- ---- nothing comes back after a render that saw all

later-none : (b : ℕ) (l : Lane) (us : List Posted) → Below b us → list_any (λ u. nat_le b u.update.number && same_lane u.update.lane l) us ≡ false
later-none b l [] all = refl
later-none b l (u ∷ us) all =
    let no : nat_le b u.update.number ≡ false = grind (arith, nat_tests, all.0) in
    rw (no, later-none b l us all.1) refl

and-not-same : (b : Bool) → (b && not b) ≡ false
and-not-same true = refl
and-not-same false = refl

resolved-none : (j : Journal) (waits : List Pair) → resolved_since (cut_now j) j waits ≡ false
resolved-none j [] = refl
resolved-none j (w ∷ ws) = rw (and-not-same (is_some (resolved_by (cut_now j) j w.resource w.version)), resolved-none j ws) refl

awaits-none : (lanes : Lanes) (j : Journal) (ws : List Awaits) → list_any (λ waits. resolved_since (cut_now j) j (in_versions (version_of lanes (cut_now j) j) waits)) ws ≡ false
awaits-none lanes j [] = refl
awaits-none lanes j (w ∷ ws) = rw (resolved-none j (in_versions (version_of lanes (cut_now j) j) w), awaits-none lanes j ws) refl

nothing-where : union (lanes_where (λ l. false)) no_lanes ≡ no_lanes
unfolding lanes_where
nothing-where = refl

and-false : (b : Bool) → (b && false) ≡ false
and-false true = refl
and-false false = refl

still-none : (lanes : Lanes) (j : Journal) (new : Node) → Below (length j.updates) j.updates → still_pending lanes (cut_now j) j new ≡ no_lanes
still-none lanes j new all =
    ap (λ b. union (lanes_where (λ l. has lanes l && has_later (cut_now j) j l)) (cond b (one lane.Retry) no_lanes)) (awaits-none lanes j (visible_awaits (Some new)))
    ∙ ap (λ (ls : Lanes). union ls no_lanes)
    (lanes_agree (λ l. has lanes l && has_later (cut_now j) j l) (λ l. false) (λ l. ap (λ b. has lanes l && b) (later-none (length j.updates) l j.updates all) ∙ and-false (has lanes l)))
    ∙ nothing-where

-- ---- the lanes that are pending and not suspended

abbrev free_of : Schedule → Lanes
free_of sch = minus sch.pending sch.suspended

abbrev free : State → Lanes
free s = free_of s.schedule

by_bools : (p s m : Bool) → (((p && not m) || false) && not (s && ((p && not m) || false))) ≡ ((p && not s) && not m)
by_bools true true true = refl
by_bools true true false = refl
by_bools true false true = refl
by_bools true false false = refl
by_bools false true true = refl
by_bools false true false = refl
by_bools false false true = refl
by_bools false false false = refl

-- a commit after which nothing comes back takes its lanes out of them
free-commit : (sch : Schedule) (lanes : Lanes) (now : ℕ) → free_of (after_commit sch lanes no_lanes now) ≡ minus (free_of sch) lanes
free-commit sch lanes now = lanes_agree _ _ (λ l.
    let left : Lanes = minus sch.pending lanes in
    let more : Lanes = union left no_lanes in
    let has_left : has left l ≡ (has sch.pending l && not (has lanes l)) = has-lanes_where _ l in
    let has_more : has more l ≡ (has left l || false) = has-lanes_where _ l in
    let has_kept : has (intersection sch.suspended more) l ≡ (has sch.suspended l && has more l) = has-lanes_where _ l in
    let has_free : has (free_of sch) l ≡ (has sch.pending l && not (has sch.suspended l)) = has-lanes_where _ l in
    rw (has_kept, has_more, has_left, has_free) (by_bools (has sch.pending l) (has sch.suspended l) (has lanes l)))

or_bools : (p s m : Bool) → (p && not (s || m)) ≡ ((p && not s) && not m)
or_bools true true true = refl
or_bools true true false = refl
or_bools true false true = refl
or_bools true false false = refl
or_bools false s m = refl

-- a deferral takes its lanes out of them
free-deferral : (sch : Schedule) (lanes : Lanes) (waits : Waiting) (now : ℕ) → free_of (after_deferral sch lanes waits now) ≡ minus (free_of sch) lanes
free-deferral sch lanes waits now = lanes_agree _ _ (λ l.
    let has_both : has (union sch.suspended lanes) l ≡ (has sch.suspended l || has lanes l) = has-lanes_where _ l in
    let has_free : has (free_of sch) l ≡ (has sch.pending l && not (has sch.suspended l)) = has-lanes_where _ l in
    rw (has_both, has_free) (or_bools (has sch.pending l) (has sch.suspended l) (has lanes l)))

-- the end of a render that saw all takes its lanes out of them
free-ended : (s : State) (g : Progress) (counts : Counts) (o : Outcome) → g.cut ≡ cut_now s.journal → Below (length s.journal.updates) s.journal.updates
    → free (ended_by s g counts o).after ≡ minus (free s) g.lanes
free-ended s g counts (commit new) now all = sync (has g.lanes lane.Sync)
  where
    st : State
    st = committed_state s g (numbered s.numbers new)

    whole : free st ≡ minus (free s) g.lanes
    whole =
        ap (λ (c : Cut). free_of (after_commit s.schedule g.lanes (still_pending g.lanes c s.journal (numbered s.numbers new).1) s.now)) now
        ∙ ap (λ (ls : Lanes). free_of (after_commit s.schedule g.lanes ls s.now)) (still-none g.lanes s.journal (numbered s.numbers new).1 all)
        ∙ free-commit s.schedule g.lanes s.now

    sync : (b : Bool) → free (cond b (passive_run st) (silent st)).after ≡ minus (free s) g.lanes
    sync true = whole
    sync false = whole
free-ended s g counts (defer waits) now all =
    let pairs = in_versions (version_of g.lanes (cut_now s.journal) s.journal) waits in
    ap (λ (c : Cut). free_of (cond (resolved_since c s.journal (in_versions (version_of g.lanes c s.journal) waits)) s.schedule
    (after_deferral s.schedule g.lanes (in_versions (version_of g.lanes c s.journal) waits) s.now))) now
    ∙ ap (λ b. free_of (cond b s.schedule (after_deferral s.schedule g.lanes pairs s.now))) (resolved-none s.journal pairs)
    ∙ free-deferral s.schedule g.lanes pairs s.now

-- ---- a render that starts has a lane of them

pub has-links_on : (n : ℕ) (links : Links) (pending lanes : Lanes) (l : Lane) → has lanes l ≡ true → has (links_on n links pending lanes) l ≡ true
unfolding links_on one_link_on
has-links_on zero links pending lanes l h = h
has-links_on (suc n) links pending lanes l h =
    has-links_on n links pending (one_link_on links pending lanes) l (has-lanes_where _ l ∙ rw h refl)

pub has-with_default : (sch : Schedule) (lanes : Lanes) (l : Lane) → has lanes l ≡ true → has (with_default sch lanes) l ≡ true
has-with_default sch lanes l h = go (has lanes lane.Input && has sch.pending lane.Default)
  where
    go : (b : Bool) → has (cond b (union lanes (one lane.Default)) lanes) l ≡ true
    go true = has-lanes_where _ l ∙ rw h refl
    go false = h

has-same_rank : (l : Lane) (ls : Lanes) → has (same_rank (l ∷ ls)) l ≡ true
has-same_rank l ls = go (is_transition l) refl
  where
    go : (b : Bool) → is_transition l ≡ b → has (cond b (transitions (l ∷ ls)) (one l)) l ≡ true
    go true e = has-lanes_where _ l ∙ rw (e, has-first l ls) refl
    go false e = has-one l

lanes_in : Choice → Lanes
lanes_in choice.None = no_lanes
lanes_in choice.Keep = no_lanes
lanes_in (choice.Start lanes) = lanes

start-lanes : (sch : Schedule) (first lanes : Lanes) → choose sch first None ≡ choice.Start lanes → lanes ≡ lanes_to_start sch first
unfolding lanes_in
start-lanes sch [] lanes e = absurd (cc)
start-lanes sch (m ∷ ms) lanes e = sym (ap lanes_in e)

never-keeps : (sch : Schedule) (first : Lanes) → choose sch first None ≡ choice.Keep → ⊥
never-keeps sch [] e = absurd (cc)
never-keeps sch (m ∷ ms) e = absurd (cc)

-- so a render that starts and ends leaves fewer
start-falls : (s : State) (lanes : Lanes) → choose s.schedule (same_rank (free s)) None ≡ choice.Start lanes → length (minus (free s) lanes) < length (free s)
start-falls s lanes e = go (free s) refl
  where
    go : (fr : Lanes) → free s ≡ fr → length (minus (free s) lanes) < length (free s)
    go [] f = let no : choose s.schedule [] None ≡ choice.Start lanes = subst (λ (ls : Lanes). choose s.schedule (same_rank ls) None ≡ choice.Start lanes) f e in absurd (cc no)
    go (l ∷ ls) f =
        let inside : has (free s) l ≡ true = subst (λ (ks : Lanes). has ks l ≡ true) (sym f) (has-first l ls) in
        let first : has (same_rank (free s)) l ≡ true = subst (λ (ks : Lanes). has (same_rank ks) l ≡ true) (sym f) (has-same_rank l ls) in
        let started : has (lanes_to_start s.schedule (same_rank (free s))) l ≡ true = has-links_on 20 s.schedule.links s.schedule.pending (with_default s.schedule (same_rank (free s))) l (has-with_default s.schedule (same_rank (free s)) l first) in
        length-minus-falls _ lanes l inside (subst (λ (ks : Lanes). has ks l ≡ true) (sym (start-lanes s.schedule (same_rank (free s)) lanes e)) started)

-- ---- the end of a render

-- what a state needs is there after a render's end
pub ended-can : (p : Program) (s : State) (g : Progress) (counts : Counts) (o : Outcome) → CanGoOn p s → CanGoOn p (ended_by s g counts o).after
ended-can p s g counts (commit new) can = sync (has g.lanes lane.Sync)
  where
    st : State
    st = committed_state s g (numbered s.numbers new)

    below : AllByRecursion (λ u. u.update.number < length st.journal.updates) st.journal.updates
    below = subst (λ (n : ℕ). AllByRecursion (λ u. u.update.number < n) st.journal.updates) (sym (length-map s.journal.updates _)) (below-marked (length s.journal.updates) g.lanes g.cut _ _ s.journal.updates can.below)

    sync : (b : Bool) → CanGoOn p (cond b (passive_run st) (silent st)).after
    sync true = record { below = below; due = tt }
    sync false = record { below = below; due = tt }
ended-can p s g counts (defer waits) can = record { below = can.below; due = tt }

-- no render is in progress then
ended-none : (s : State) (g : Progress) (counts : Counts) (o : Outcome) → (ended_by s g counts o).after.progress ≡ None
ended-none s g counts (commit new) = sync (has g.lanes lane.Sync)
  where
    st : State
    st = committed_state s g (numbered s.numbers new)

    sync : (b : Bool) → (cond b (passive_run st) (silent st)).after.progress ≡ None
    sync true = refl
    sync false = refl
ended-none s g counts (defer waits) = refl

-- ---- turns

abbrev one_unit_more : Progress → Counts
one_unit_more g = record { units = g.units + 1; bodies = g.bodies }

-- a render in progress can be finished with one unit more
some_finish : (p : Program) (s : State) (g : Progress) (slice : Option ℕ) → NeverWaits p → g.bodies ≤ g.units → g.units < unit_bound p → IfSome slice (λ n. g.units + 1 ≤ g.units + n)
    → (tree : Node) × Finishes p s g slice (ended s g (one_unit_more g) tree)
some_finish p s g slice never few left fits =
    let made = never (sight_of p s g) s.tree refl in (
      made.0,
      record {
        counts = one_unit_more g;
        more_units = omega arith;
        in_bound = omega (arith, left);
        in_slice = fits;
        bodies_kept = omega arith;
        fewer_bodies = omega (arith, few);
        one_a_unit = omega arith;
        tree = made.0;
        rendered = made.1;
        stretch_is = refl;
      },
    )

abbrev SomeGoing : Program → State → Progress → Option ℕ → Type 0
SomeGoing p s g slice = (r : Stretch) × (Finishes p s g slice r ⊎ Yields p s g slice r) × CanGoOn p r.after

some_going : (p : Program) (s : State) (g : Progress) (slice : Option ℕ) → NeverWaits p → g.bodies ≤ g.units → g.units < unit_bound p → CanGoOn p s → SomeGoing p s g slice
some_going p s g None never few left can =
    let f = some_finish p s g None never few left tt in
    (ended s g (one_unit_more g) f.0, inl f.1, ended-can p s g (one_unit_more g) (outcome g.lanes s.tree f.0) can)
some_going p s g (Some zero) never few left can = (
  record { lines = []; bodies = 0; after = record s { progress = Some (gone_on g 0 0) } },
  inr (record { budget = 0; bodies = 0; sliced = refl; in_bound = omega (arith, left); one_a_unit = omega arith; stretch_is = refl }),
  record { below = can.below; due = (omega (arith, few), omega (arith, left)) },
)
some_going p s g (Some (suc n)) never few left can =
    let f = some_finish p s g (Some (suc n)) never few left (omega arith) in
    (ended s g (one_unit_more g) f.0, inl f.1, ended-can p s g (one_unit_more g) (outcome g.lanes s.tree f.0) can)

abbrev SomeTurn : Program → State → Choice → Option ℕ → Type 0
SomeTurn p s c budget = (r : Stretch) × TurnBy AnyRender p s c budget r × CanGoOn p r.after

-- if a render is to go on, there is one
keep-some : (s : State) → choice_of s ≡ choice.Keep → s.progress ≡ None → ⊥
keep-some s e f =
    never-keeps s.schedule (same_rank (free s)) (subst (λ (x : Option Progress). choose s.schedule (same_rank (free s)) (option_map (λ g. g.lanes) x) ≡ choice.Keep) f e)

pub can-passive : (p : Program) (s : State) → CanGoOn p s → CanGoOn p (passive_run s).after
can-passive p s can = record { below = can.below; due = can.due }

-- a turn can be taken
some_turn : (p : Program) (s : State) (budget : Option ℕ) → NeverWaits p → CanGoOn p s → SomeTurn p s (choice_of s) budget
some_turn p s budget never can = by_choice (choice_of s) refl
  where
    keep : (x : Option Progress) → s.progress ≡ x → choice_of s ≡ choice.Keep → (r : Stretch) × Continues AnyRender p s x budget r × CanGoOn p r.after
    keep None f e = absurd (keep-some s e f)
    keep (Some g) f e =
        let due : (g.bodies ≤ g.units) × (g.units < unit_bound p) = subst (λ (x : Option Progress). IfSome x (λ g. (g.bodies ≤ g.units) × (g.units < unit_bound p))) f can.due in
        let r = some_going p s g (slice_of s g budget) never due.0 due.1 can in
        (r.0, (r.1, tt), r.2)

    by_choice : (c : Choice) → choice_of s ≡ c → SomeTurn p s c budget
    by_choice choice.None e = (silent s, refl, can)
    by_choice choice.Keep e = keep s.progress refl e
    by_choice (choice.Start lanes) e =
        let t : State = (passive_run s).after in
        let g : Progress = starting s lanes in
        let r = some_going p t g (slice_of t g budget) never (omega arith) (omega arith) (can-passive p s can) in
        (followed_by (passive_run s) r.0, record { rest = r.0; begins = (r.1, tt); stretch_is = refl }, r.2)

-- ---- a flush

abbrev SomeFlush : ℕ → Program → State → Type 0
SomeFlush limit p s = (k : ℕ) × (r : Stretch) × (k ≤ limit) × Flushes AnyRender IsAtRest k p s r × CanGoOn p r.after

start-is-some : (c : Choice) (lanes : Lanes) → c ≡ choice.Start lanes → c ≢ choice.None
start-is-some c lanes e f = absurd (cc)

keep-is-some : (c : Choice) → c ≡ choice.Keep → c ≢ choice.None
keep-is-some c e f = absurd (cc)

-- a render that starts in a flush, and the state after it
pub record Started (p : Program) (s : State) (lanes : Lanes) : Type 0 where
  pub whole : Stretch
  pub turn : TurnBy AnyRender p s (choice.Start lanes) None whole
  pub can : CanGoOn p whole.after
  pub none : whole.after.progress ≡ None
  pub free_is : free whole.after ≡ minus (free s) lanes

some_started : (p : Program) (s : State) (lanes : Lanes) → NeverWaits p → CanGoOn p s → Started p s lanes
some_started p s lanes never can =
    let t : State = (passive_run s).after in
    let g : Progress = starting s lanes in
    let f = some_finish p t g None never (omega arith) (omega arith) tt in
    let rest : Stretch = ended t g (one_unit_more g) f.0 in
    record {
      whole = followed_by (passive_run s) rest;
      turn = record { rest = rest; begins = (inl f.1, tt); stretch_is = refl };
      can = ended-can p t g (one_unit_more g) (outcome g.lanes t.tree f.0) (can-passive p s can);
      none = ended-none t g (one_unit_more g) (outcome g.lanes t.tree f.0);
      free_is = free-ended t g (one_unit_more g) (outcome g.lanes t.tree f.0) refl can.below;
    }

by-none : (s : State) (c : Choice) → s.progress ≡ None → choice_of s ≡ c → choose s.schedule (same_rank (free s)) None ≡ c
by-none s c none e = subst (λ (x : Option Progress). choose s.schedule (same_rank (free s)) (option_map (λ g. g.lanes) x) ≡ c) none e

abbrev LaterFlushes : ℕ → Program → Type 0
LaterFlushes limit p = (t : State) → NeverWaits p → CanGoOn p t → t.progress ≡ None → length (free t) ≤ limit → SomeFlush limit p t

flush-from-start : (limit : ℕ) (p : Program) (s : State) (lanes : Lanes) → LaterFlushes limit p → NeverWaits p → CanGoOn p s → s.progress ≡ None → length (free s) ≤ suc limit → choice_of s ≡ choice.Start lanes → SomeFlush (suc limit) p s
flush-from-start limit p s lanes later never can none few e =
    let falls : length (minus (free s) lanes) < length (free s) = start-falls s lanes (by-none s (choice.Start lanes) none e) in
    let first : Started p s lanes = some_started p s lanes never can in
    let fewer : length (free first.whole.after) ≤ limit = subst (λ (ls : Lanes). length ls ≤ limit) (sym first.free_is) (omega (arith, falls, few)) in
    let rest = later first.whole.after never first.can first.none fewer in (
      suc rest.0,
      followed_by first.whole rest.1,
      omega (arith, rest.2),
      (start-is-some (choice_of s) lanes e, first.whole, rest.1, subst (λ (c : Choice). TurnBy AnyRender p s c None first.whole) (sym e) first.turn, rest.3, refl),
      rest.4,
    )

-- with no render in progress, each render takes a lane out of those that are pending and not suspended
some_flushes : (limit : ℕ) (p : Program) → LaterFlushes limit p
some_flushes zero p s never can none few = by_choice (choice_of s) refl
  where
    by_choice : (c : Choice) → choice_of s ≡ c → SomeFlush 0 p s
    by_choice choice.None e = (0, silent s, omega arith, (e, refl), can)
    by_choice choice.Keep e = absurd (keep-some s e none)
    by_choice (choice.Start lanes) e =
        let falls : length (minus (free s) lanes) < length (free s) = start-falls s lanes (by-none s (choice.Start lanes) none e) in absurd (omega (arith, falls, few))
some_flushes (suc limit) p s never can none few = by_choice (some_flushes limit p) (choice_of s) refl
  where
    by_choice : LaterFlushes limit p → (c : Choice) → choice_of s ≡ c → SomeFlush (suc limit) p s
    by_choice later choice.None e = (0, silent s, omega arith, (e, refl), can)
    by_choice later choice.Keep e = absurd (keep-some s e none)
    by_choice later (choice.Start lanes) e = flush-from-start limit p s lanes later never can none few e

abbrev SomeStep : Program → State → Step → Type 0
SomeStep p s x = (r : Stretch) × StepTo AnyRender p s x r × CanGoOn p r.after

abbrev FlushFrom : Program → State → Type 0
FlushFrom p s = (r : Stretch) × Flush AnyRender p s r × CanGoOn p r.after

-- a first render, and then those that a flush finishes with none in progress
flush-after : (p : Program) (s : State) (first : Stretch) → NeverWaits p → choice_of s ≢ choice.None → Turn AnyRender p s None first → CanGoOn p first.after → first.after.progress ≡ None → FlushFrom p s
flush-after p s first never some turn can none =
    let rest = some_flushes 20 p first.after never can none (length-where-le _) in
    (followed_by first rest.1, (suc rest.0, omega (arith, rest.2), (some, first, rest.1, turn, rest.3, refl)), rest.4)

-- a flush ends
some_flush : (p : Program) (s : State) → NeverWaits p → CanGoOn p s → FlushFrom p s
some_flush p s never can = by_choice (choice_of s) refl
  where
    keep : (x : Option Progress) → s.progress ≡ x → choice_of s ≡ choice.Keep → FlushFrom p s
    keep None f e = absurd (keep-some s e f)
    keep (Some g) f e =
        let due : (g.bodies ≤ g.units) × (g.units < unit_bound p) = subst (λ (x : Option Progress). IfSome x (λ g. (g.bodies ≤ g.units) × (g.units < unit_bound p))) f can.due in
        let finish = some_finish p s g None never due.0 due.1 tt in
        let first : Stretch = ended s g (one_unit_more g) finish.0 in
        let turn : Turn AnyRender p s None first = subst (λ (c : Choice). TurnBy AnyRender p s c None first) (sym e) (subst (λ (x : Option Progress). Continues AnyRender p s x None first) (sym f) (inl finish.1, tt)) in
        flush-after p s first never (keep-is-some (choice_of s) e) turn
        (ended-can p s g (one_unit_more g) (outcome g.lanes s.tree finish.0) can) (ended-none s g (one_unit_more g) (outcome g.lanes s.tree finish.0))

    by_choice : (c : Choice) → choice_of s ≡ c → FlushFrom p s
    by_choice choice.None e = (silent s, (0, omega arith, (e, refl)), can)
    by_choice choice.Keep e = keep s.progress refl e
    by_choice (choice.Start lanes) e =
        let first : Started p s lanes = some_started p s lanes never can in
        flush-after p s first.whole never (start-is-some (choice_of s) lanes e) (subst (λ (c : Choice). TurnBy AnyRender p s c None first.whole) (sym e) first.turn) first.can first.none

-- ---- steps

pub can-between : (p : Program) (s : State) → CanGoOn p s → CanGoOn p (between_events s)
can-between p s can = record { below = can.below; due = can.due }

accepted-can : (p : Program) (s : State) (u : Posted) → u.update.number ≡ length s.journal.updates → CanGoOn p s → CanGoOn p (accepted s u)
accepted-can p s u number can =
    let us : List Posted = s.journal.updates in
    let more : length us ≤ length (us ++ u ∷ []) = omega (arith, length-append us u) in
    record {
      below = below-append (length (us ++ u ∷ [])) us u (below-more (length us) (length (us ++ u ∷ [])) us more can.below) (omega (arith, length-append us u, number));
      due = can.due;
    }

pub dispatched_for-can : (p : Program) (s : State) (w : LaneWord) (t : Target) (o : Op) → CanGoOn p s → CanGoOn p (dispatched_for s w t o)
dispatched_for-can p s word.Sync t o can = accepted-can p s (next_update s.journal t o (lane_of s word.Sync)) refl can
dispatched_for-can p s word.Input t o can = accepted-can p s (next_update s.journal t o (lane_of s word.Input)) refl can
dispatched_for-can p s word.Default t o can = accepted-can p s (next_update s.journal t o (lane_of s word.Default)) refl can
dispatched_for-can p s word.Transition t o can =
    let l = lane_of s word.Transition in
    accepted-can p (in_event word.Transition s t l) (next_update s.journal t o l) refl (record { below = can.below; due = can.due })

unset_by-can : (p : Program) (s : State) (d : Dispatch) (t : Target) → CanGoOn p s → CanGoOn p (unset_by d t s)
unset_by-can p s (dispatch.Set word path name x) t can = can
unset_by-can p s (dispatch.Call word path name f x) t can = can
unset_by-can p s (dispatch.Send word path name x) t can = can
unset_by-can p s (dispatch.Start asked path name) t can = dispatched_for-can p s word.Transition t (op.Set (pos 0)) can
unset_by-can p s (dispatch.Refresh word name) t can = can

dispatched_to-can : (p : Program) (s : State) (d : Dispatch) (m : Option Mounted) → CanGoOn p s → CanGoOn p (dispatched_to p s d m).after
dispatched_to-can p s d None can = can
dispatched_to-can p s d (Some m) can = unset_by-can p (dispatched_for s (word_of d) (target_of p d m) (op_of p m.component d)) d (target_of p d m) (dispatched_for-can p s (word_of d) (target_of p d m) (op_of p m.component d) can)

enqueued-can : (p : Program) (s : State) (d : Dispatch) → CanGoOn p s → CanGoOn p (enqueued p s d).after
enqueued-can p s (dispatch.Set word path name x) can = dispatched_to-can p s (dispatch.Set word path name x) (instance_found p s.tree path) can
enqueued-can p s (dispatch.Call word path name f x) can = dispatched_to-can p s (dispatch.Call word path name f x) (instance_found p s.tree path) can
enqueued-can p s (dispatch.Send word path name x) can = dispatched_to-can p s (dispatch.Send word path name x) (instance_found p s.tree path) can
enqueued-can p s (dispatch.Start word path name) can = dispatched_to-can p s (dispatch.Start word path name) (instance_found p s.tree path) can
enqueued-can p s (dispatch.Refresh word name) can = dispatched_for-can p s word (resource (resource_number p name)) op.Refresh can

pub dispatched-can : (p : Program) (s : State) (d : Dispatch) → CanGoOn p s → CanGoOn p (dispatched p s d).after
dispatched-can p s d can = enqueued-can p (within d s) d (record { below = can.below; due = can.due })

pub resolved-can : (p : Program) (s : State) (name : Name) (x : ℤ) (o : Option ℤ) → CanGoOn p s → CanGoOn p (resolved_as p s name x o).after
resolved-can p s name x None can = record { below = can.below; due = can.due }
resolved-can p s name x (Some y) can = can

sync-step : (b : Bool) (p : Program) (s : State) → NeverWaits p → CanGoOn p s → (r : Stretch) × FlushSync AnyRender b p s r × CanGoOn p r.after
sync-step true p s never can = some_turn p s None never can
sync-step false p s never can = (silent s, refl, can)

-- each step can be taken
some_step : (p : Program) (s : State) (x : Step) → NeverWaits p → CanGoOn p s → SomeStep p s x
some_step p s (step.Dispatch d) never can = (dispatched p s d, refl, dispatched-can p s d can)
some_step p s (step.Resolve name x) never can =
    let t = between_events s in
    (resolved p t name x, refl, resolved-can p t name x (last_value t (resource_number p name)) (can-between p s can))
some_step p s (step.Tick n) never can = (_, refl, record { below = can.below; due = can.due })
some_step p s (step.Work n) never can = some_turn p (between_events s) (Some n) never (can-between p s can)
some_step p s step.Flush never can = some_flush p (between_events s) never (can-between p s can)
some_step p s step.FlushSync never can = sync-step (has s.schedule.pending lane.Sync) p (between_events s) never (can-between p s can)
some_step p s step.Passive never can = (_, refl, record { below = can.below; due = can.due })
some_step p s step.Event never can = (_, refl, record { below = can.below; due = can.due })
some_step p s step.State never can = (_, refl, record { below = can.below; due = can.due })
some_step p s step.Tree never can = (_, refl, record { below = can.below; due = can.due })

-- so each list of steps has a run, if App never waits
pub goes_on_from : (p : Program) → GoesOnFrom p
goes_on_from p never s can [] = (silent s, refl)
goes_on_from p never s can (x ∷ xs) =
    let first = some_step p s x never can in
    let rest = goes_on_from p never first.0.after first.2 xs in
    (followed_by first.0 rest.0, (first.0, rest.0, first.1, rest.1, refl))

-- and the opening state is one that can go on
pub opening_can : (p : Program) → CanGoOn p opening
opening_can p = record { below = tt; due = tt }
