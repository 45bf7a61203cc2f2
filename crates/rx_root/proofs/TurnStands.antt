-- A root stands for the state after a slice, a deferral, and the start of a render.
use Rattle.std.proofs.Common.{◌≡◌, ℕ, ◌<◌, false, List, [], ◌∷◌, length, refl, sym, ap, ◌∙◌, subst, arith, Option, Some, None}
use Rattle.std.specs.Prelude.{◌&&◌, nat_le, IfSome}
use Rattle.std.specs.List.{list_any, AllByRecursion}
use Rattle.std.proofs.lemmas.Bool.Decides.{nat_tests}
use Rattle.rx_base.specs.Awaits.{Awaits}
use Rattle.rx_base.specs.declared.cut.Cut.{Cut}
use Rattle.rx_lane.specs.declared.lane.Lane.{Lane}
use Rattle.rx_lane.specs.Lanes.{Lanes, has, lanes_where, same_lane, no_lanes}
use Rattle.rx_ast.specs.Syntax.{Program}
use Rattle.rx_elem.specs.Trees.{Node, element_of}
use Rattle.rx_meaning.specs.Fresh.{root_element}
use Rattle.commit_laws.proofs.Soundness.{resolution_keeps}
use Rattle.rx_queue.specs.Journal.{Posted, cut_now, has_later, resolutions_by}
use Rattle.rx_sched.specs.Schedule.{Schedule}
use Rattle.rx_meaning.specs.Settled.{DoneBefore}
use Rattle.rx_effect.specs.EffectLog.{no_passive}
use Rattle.rx_lines.specs.Lines.{Counts, Written, deferred, with_line}
use Rattle.rx_model.specs.State.{State, Progress}
use Rattle.rx_model.specs.HooksOf.{KeepsAllHooks}
use Rattle.rx_model.specs.Committing.{passive_run, starting, schedule_deferred, deferred_as}
use Rattle.rx_model.specs.Kept.{IsSet}
use Rattle.rx_model.specs.Laws.{IsBounded, IsReached}
use Rattle.rx_model.proofs.Reached.{reached-can}
use Rattle.run_laws.specs.Carried.{IfRooted, NumbersBelow}
use Rattle.run_laws.proofs.AlongRuns.{reached_carries}
use Rattle.run_laws.proofs.Carrying.{all_accounted, done_before, start_renders}
use Rattle.rx_fiber.specs.Reading.{IsTreeOf}
use Rattle.rx_hook_store.specs.Store.{kept_hooks}
use Rattle.rx_hook_store.proofs.Staying.{all_stay}
use Rattle.rx_lists.specs.Shapes as shapes
use Rattle.rx_links.specs.Drafts.{taken}
use Rattle.rx_commit.specs.Shown.{Shown}
use Rattle.rx_writing.specs.Written.{with_lines}
use Rattle.rx_render.specs.declared.at.At.{At}
use Rattle.rx_render.specs.declared.at.At.TheVariants.{Begins, Completes, Over}
use Rattle.rx_render.specs.Rendering.{Rendering, IfLeft, units_left, left_of}
use Rattle.rx_check.specs.Accepted.{IsAccepted}
use Rattle.rx_check.proofs.Limited.{few-resources}
use Rattle.run_laws.proofs.WaitingAgain.{starting_waits_again}
use Rattle.rx_root.proofs.Findable.{state_numbered}
use Rattle.rx_render.specs.Renders.{Renders, IsStartOf}
use Rattle.rx_resources.specs.Seen.{seen_of}
use Rattle.rx_root.specs.Rooted.{Rooted}
use Rattle.rx_root.specs.Stands.{HasProgress, StandsBy, StandsWith, Stands}
use Rattle.rx_root.specs.Turning.{IsAtEndOf, StandsAtEnd, KnowsSince}
use Rattle.rx_kept.proofs.Resources.{asks_for_declared, seen_is}
use Rattle.rx_root.proofs.TurnLines.{with_one}

-- if the schedule and the rendering change, and another render is in progress, or none
pub moved_stands : (p : Program) (s : State) (asks : Rooted → Type 0) (v : Rooted) (schedule : Schedule) (progress : Option Progress) (w : Rendering)
    → StandsBy p s asks v → IsReached p (record s { schedule = schedule; progress = progress })
    → w.program ≡ v.rendering.program → w.trees.current ≡ v.rendering.trees.current → w.seen ≡ v.rendering.seen → KeepsAllHooks p s (kept_hooks w.hooks)
    → HasProgress p (record s { schedule = schedule; progress = progress }) progress (record v { rendering = w; schedule = schedule })
    → Stands p (record s { schedule = schedule; progress = progress }) (record v { rendering = w; schedule = schedule })
moved_stands p s asks v schedule progress w h reached program current seen keeps has =
    record {
      reached = reached;
      program = program ∙ h.program;
      current = subst (IsTreeOf s.tree) (sym current) h.current;
      seen = seen ∙ h.seen;
      numbered = (h.numbered.0, subst (IsTreeOf h.numbered.0) (sym current) h.numbered.1, h.numbered.2);
      keeps = all_stay s (record s { schedule = schedule; progress = progress }) refl refl p (kept_hooks w.hooks) (kept_hooks w.hooks) refl (λ n. refl) keeps;
      below = h.below;
      shows = h.shows;
      schedule = refl;
      commits = h.commits;
      updates = h.updates;
      resolutions = h.resolutions;
      resources = h.resources;
      now = h.now;
      event = h.event;
      numbers = h.numbers;
      declared = h.declared;
      progress = has;
    }

-- No update is later than a cut that is made now

later_none : (b : ℕ) (l : Lane) (us : List Posted) → AllByRecursion (λ u. u.update.number < b) us
    → list_any (λ u. nat_le b u.update.number && same_lane u.update.lane l) us ≡ false
later_none b l [] all = refl
later_none b l (u ∷ us) all =
    let no : nat_le b u.update.number ≡ false = grind (arith, nat_tests, all.0) in
    rw (no, later_none b l us all.1) refl

pub no_later : (p : Program) (s : State) → IsReached p s → (l : Lane) → has no_lanes l ≡ has_later (cut_now s.journal) s.journal l
no_later p s reached l = sym (later_none (length s.journal.updates) l s.journal.updates (reached-can p s reached).below)

-- and what is done lies before it
numbers_below : (b : ℕ) (us : List Posted) → AllByRecursion (λ u. u.update.number < b) us → NumbersBelow b us
numbers_below b [] all = tt
numbers_below b (u ∷ us) all = (all.0, numbers_below b us all.1)

pub done_now : (p : Program) (s : State) → IsReached p s → DoneBefore (cut_now s.journal) s.journal.updates
done_now p s reached =
    done_before (cut_now s.journal) s.journal.updates
    (all_accounted (cut_now s.journal) s.journal.updates (numbers_below (length s.journal.updates) s.journal.updates (reached-can p s reached).below))

rooted_so : (p : Program) (tree : Option Node) → IfRooted p tree → IfSome tree (λ x. element_of x ≡ root_element p)
rooted_so p None h = tt
rooted_so p (Some n) h = h

-- what a render that starts now needs, once pending passive effects have run
pub can_start : (p : Program) → IsAccepted p → IsBounded p → (s : State) (v : Rooted) (lanes : Lanes) → Stands p s v → IsReached p (passive_run s).after
    → IsStartOf (passive_run s).after lanes (record { updates = v.updates; resolutions = v.resolutions }) (seen_of lanes (record { updates = v.updates; resolutions = v.resolutions }) v.resources) v.rendering
can_start p accepted bounded s v lanes h reached =
    let after : State = (passive_run s).after in
    let carried = reached_carries p bounded.shallow bounded.declared after reached in
    let on = start_renders p s.journal after.numbers s.tree lanes carried.0 carried.1 carried.2 in
    let sound = resolution_keeps p s.journal.updates carried.0 (resolutions_by (cut_now s.journal) s.journal) after.numbers.instance s.tree on.more carried.2.sound in
    let done = done_now p (passive_run s).after reached in
    let cut : record { updates = v.updates; resolutions = v.resolutions } ≡ cut_now s.journal = rw (h.updates, h.resolutions) refl in
    let numbered = state_numbered p bounded after reached in
    record {
      current = h.current;
      keeps = rw h.program (all_stay s (passive_run s).after refl refl p (kept_hooks v.rendering.hooks) (kept_hooks v.rendering.hooks) refl (λ n. refl) h.keeps);
      done = subst (λ (c : Cut). DoneBefore c s.journal.updates) (sym cut) done;
      cut_is = cut;
      resources_are = rw h.program (ap (λ (c : Cut). seen_of lanes c v.resources) cut ∙ seen_is p s.journal s.linked v.resources lanes h.resources done s.seen);
      declared = rw h.program (asks_for_declared p s.journal lanes (cut_now s.journal) s.seen h.declared);
      settled = rw h.program sound.settled;
      rooted = rw h.program (rooted_so p s.tree carried.2.rooted);
      waits = rw h.program (starting_waits_again p bounded.shallow (few-resources p accepted) after carried lanes);
      reads = rw h.program sound.reads;
      seen = h.seen;
      numbered = numbered.0;
      apart = (after.numbers.instance, numbered.1);
    }

left_some : (at : At) (bound units : ℕ) → 0 < units_left at bound units → IfLeft at ⊥ → ⊥
left_some (Begins id) bound units h none = none
left_some (Completes id) bound units h none = none
left_some Over bound units h none = omega (arith, h)

-- a render has started
pub started_stands : (p : Program) (s : State) (v : Rooted) (lanes : Lanes) (w : Rendering) → Stands p s v → IsReached p (passive_run s).after → IsSet lanes
    → w.program ≡ v.rendering.program → w.trees.current ≡ v.rendering.trees.current → w.hooks ≡ v.rendering.hooks
    → Renders p (passive_run s).after (starting s lanes) w → w.units ≡ 0 → w.bodies ≡ 0 → 0 < left_of w
    → StandsWith p (passive_run s).after (Some (starting s lanes)) (record v { rendering = w; shown = record v.shown { passive = no_passive }; later = no_lanes })
started_stands p s v lanes w h reached set program current hooks renders units bodies left =
    record {
      reached = reached;
      program = program ∙ h.program;
      current = subst (IsTreeOf s.tree) (sym current) h.current;
      seen = renders.seen;
      numbered = (h.numbered.0, subst (IsTreeOf h.numbered.0) (sym current) h.numbered.1, h.numbered.2);
      keeps = renders.keeps;
      below = h.below;
      shows = record { hosts_are = h.shows.hosts_are; passive_is = refl };
      schedule = h.schedule;
      commits = h.commits;
      updates = h.updates;
      resolutions = h.resolutions;
      resources = h.resources;
      now = h.now;
      event = h.event;
      numbers = h.numbers;
      declared = h.declared;
      progress = record {
        renders = renders;
        units = units;
        bodies = bodies;
        left = left_some w.at _ w.units left;
        lanes_are_set = set;
        later = no_later p s h.reached;
      };
    }

-- the same, by parts that are equal to these
pub started_as : (p : Program) (s : State) (v : Rooted) (lanes : Lanes) (w : Rendering) (shown : Shown) (later : Lanes) → Stands p s v → IsReached p (passive_run s).after → IsSet lanes
    → w.program ≡ v.rendering.program → w.trees.current ≡ v.rendering.trees.current → w.hooks ≡ v.rendering.hooks
    → Renders v.rendering.program (passive_run s).after (starting s lanes) w → w.units ≡ 0 → w.bodies ≡ 0 → 0 < left_of w
    → shown ≡ record v.shown { passive = no_passive } → later ≡ no_lanes
    → StandsWith p (passive_run s).after (Some (starting s lanes)) (record v { rendering = w; shown = shown; later = later })
started_as p s v lanes w shown later h reached set program current hooks renders units bodies left is_shown is_later =
    let on = subst (λ (q : Program). Renders q (passive_run s).after (starting s lanes) w) h.program renders in
    subst (λ (ls : Lanes). StandsWith p (passive_run s).after (Some (starting s lanes)) (record v { rendering = w; shown = shown; later = ls })) (sym is_later)
    (subst (λ (x : Shown). StandsWith p (passive_run s).after (Some (starting s lanes)) (record v { rendering = w; shown = x; later = no_lanes })) (sym is_shown)
    (started_stands p s v lanes w h reached set program current hooks on units bodies left))

-- what is known at the end of a render of the time since it began
pub knows_at_end : (p : Program) (s : State) (g : Progress) (tree : Node) (v : Rooted) → StandsAtEnd p s g tree v → KnowsSince p s g v
knows_at_end p s g tree v h =
    record {
      program = h.program;
      resources = h.resources;
      seen = h.progress.renders.resources;
      lanes = h.progress.renders.lanes;
      declared = h.declared;
      later = h.progress.later;
    }

-- a rendering whose render is discarded
abbrev pub discarded : Rendering → Rendering
discarded w = record w { trees = record w.trees { draft = taken shapes.none }; at = Over }

-- a render is deferred
pub deferred_stands : (p : Program) (s : State) (g : Progress) (counts : Counts) (tree : Node) (waits : Awaits) (v x : Rooted) (w : Rendering) → StandsAtEnd p s g tree v
    → IsReached p (deferred_as s g counts waits).after → x ≡ record v { schedule = schedule_deferred s g waits } → w ≡ discarded x.rendering
    → Stands p (deferred_as s g counts waits).after (record x { rendering = w })
deferred_stands p s g counts tree waits v x w h reached is_suspended is_discarded =
    subst (λ (y : Rendering). Stands p (deferred_as s g counts waits).after (record x { rendering = y })) (sym is_discarded)
    (subst (λ (y : Rooted). Stands p (deferred_as s g counts waits).after (record y { rendering = discarded y.rendering })) (sym is_suspended)
    (moved_stands p s (IsAtEndOf p s g tree) v (schedule_deferred s g waits) None (discarded v.rendering) h reached refl refl refl h.keeps (record { over = refl; empty = refl })))

-- and its line is written
pub deferred_written : (log new : Written) (lanes : Lanes) (units bodies : ℕ) (g : Progress) (counts : Counts)
    → new ≡ with_line log (deferred (lanes_where (has lanes)) (record { units = units; bodies = bodies })) → lanes ≡ g.lanes → IsSet g.lanes → units ≡ counts.units → bodies ≡ counts.bodies
    → new ≡ with_lines log (deferred g.lanes counts ∷ [])
deferred_written log new lanes units bodies g counts e same set is_units is_bodies =
    e
    ∙ ap (λ (ls : Lanes). with_line log (deferred (lanes_where (has ls)) (record { units = units; bodies = bodies }))) same
    ∙ ap (λ (ls : Lanes). with_line log (deferred ls (record { units = units; bodies = bodies }))) (sym set)
    ∙ ap (λ (n : ℕ). with_line log (deferred g.lanes (record { units = n; bodies = bodies }))) is_units
    ∙ ap (λ (n : ℕ). with_line log (deferred g.lanes (record { units = counts.units; bodies = n }))) is_bodies
    ∙ with_one log (deferred g.lanes counts)
