-- What a root stands for after a step that renders nothing.
use Rattle.rx_sched.specs.declared.event.Event.{Event}
use Rattle.std.proofs.Common.{◌≡◌, ℕ, ℤ, ◌+◌, ◌<◌, Bool, true, false, ◌&&◌, ◌||◌, nat_le, Option, Some, None, List, [], ◌∷◌, ◌++◌, length, refl, sym, ap, ◌∙◌, subst, arith}
use Rattle.std.specs.List.{list_any}
use Rattle.std.proofs.lemmas.Bool.Decides.{nat_tests}
use Rattle.std.proofs.lemmas.List.{length-append}
use Rattle.std.proofs.lemmas.List.Folds.{list_any-append}
use Rattle.rx_base.specs.declared.cut.Cut.{Cut}
use Rattle.rx_lane.specs.declared.lane.Lane.{Lane}
use Rattle.rx_lane.specs.Lanes.{Lanes, has, one, same_lane, union}
use Rattle.rx_lane.specs.SetLaws.{has-lanes_where}
use Rattle.rx_ast.specs.Syntax.{Program}
use Rattle.rx_rules.specs.Names.{resources}
use Rattle.rx_queue.specs.Journal.{Journal, Posted, Resolution, has_later, next_version}
use Rattle.rx_sched.specs.Schedule.{Schedule, after_resolution, after_update}
use Rattle.rx_effect.specs.EffectLog.{Passive}
use Rattle.rx_model.specs.State.{Linked, Progress, State}
use Rattle.rx_model.specs.Accepting.{accepted, is_awaited_in, with_value}
use Rattle.rx_model.specs.HooksOf.{KeepsAllHooks}
use Rattle.rx_model.specs.Laws.{IsReached}
use Rattle.rx_fiber.specs.Reading.{IsTreeOf}
use Rattle.rx_read.specs.Numbering.{IsAllNumbered}
use Rattle.rx_hook_store.specs.Store.{kept_hooks}
use Rattle.rx_hook_store.specs.Commits.{LinksBelow}
use Rattle.rx_hook_store.proofs.Staying.{all_stay}
use Rattle.rx_commit.specs.Shown.{Shown, Shows}
use Rattle.rx_render.specs.Rendering.{IfLeft, Rendering}
use Rattle.rx_render.specs.Renders.{Renders, with_hooks}
use Rattle.rx_render.proofs.Later.{renders_resolved, renders_same}
use Rattle.rx_root.specs.Rooted.{Rooted}
use Rattle.rx_resources.specs.Kept.{Kept}
use Rattle.rx_resources.specs.Store.{resolved_at}
use Rattle.rx_root.specs.Stands.{HasProgress, Stands}
use Rattle.rx_kept.specs.Keeping.{AreDeclared, KeepsResources}
use Rattle.rx_kept.proofs.Resources.{resolution_declared, resolution_stays}

-- ---- the clock, the event and the passive effects

-- a state with this time, this event and these passive effects
abbrev pub at_time : State → ℕ → Event → Passive → State
at_time s now event passive = record s { now = now; event = event; passive = passive }

progress_stays : (p : Program) (s : State) (now : ℕ) (event : Event) (passive : Passive) (v : Rooted) (clock : ℕ) (shown : Shown) (x : Option Progress)
    → HasProgress p s x v → HasProgress p (at_time s now event passive) x (record v { now = clock; event = event; shown = shown })
progress_stays p s now event passive v clock shown None h = h
progress_stays p s now event passive v clock shown (Some g) h =
    record {
      renders = renders_same p s (at_time s now event passive) g v.rendering refl refl refl refl h.renders;
      units = h.units;
      bodies = h.bodies;
      left = h.left;
      lanes_are_set = h.lanes_are_set;
      later = h.later;
    }

-- another time, event or passive effects leave all else
pub stands_at : (p : Program) (s : State) (now : ℕ) (event : Event) (passive : Passive) (v : Rooted) (clock : ℕ) (shown : Shown) → clock ≡ now → Shows s.tree passive shown
    → IsReached p (at_time s now event passive) → Stands p s v → Stands p (at_time s now event passive) (record v { now = clock; event = event; shown = shown })
stands_at p s now event passive v clock shown time shows reached h =
    record {
      reached = reached;
      program = h.program;
      current = h.current;
      seen = h.seen;
      numbered = h.numbered;
      keeps = all_stay s (at_time s now event passive) refl refl p (kept_hooks v.rendering.hooks) (kept_hooks v.rendering.hooks) refl (λ n. refl) h.keeps;
      below = h.below;
      shows = shows;
      schedule = h.schedule;
      commits = h.commits;
      updates = h.updates;
      resolutions = h.resolutions;
      resources = h.resources;
      now = time;
      event = refl;
      numbers = h.numbers;
      declared = h.declared;
      progress = progress_stays p s now event passive v clock shown s.progress h.progress;
    }

-- ---- updates

or_nothing : (b : Bool) → (b || false) ≡ b
or_nothing true = refl
or_nothing false = refl

-- the lanes of the updates since the cut, with one update more behind it
later_more : (cut : Cut) (j : Journal) (u : Posted) (a : Lanes) (l : Lane) → has a l ≡ has_later cut j l → nat_le cut.updates u.update.number ≡ true
    → has (union a (one u.update.lane)) l ≡ has_later cut (record j { updates = j.updates ++ u ∷ [] }) l
later_more cut j u a l before behind =
    let test : Posted → Bool = λ w. nat_le cut.updates w.update.number && same_lane w.update.lane l in
    let both : has (union a (one u.update.lane)) l ≡ (has a l || has (one u.update.lane) l) = has-lanes_where _ l in
    let own : has (one u.update.lane) l ≡ same_lane u.update.lane l = has-lanes_where _ l in
    let last : list_any test (u ∷ []) ≡ same_lane u.update.lane l =
    ap (λ b. (b && same_lane u.update.lane l) || false) behind ∙ or_nothing (same_lane u.update.lane l) in
    both ∙ (ap (λ b. b || has (one u.update.lane) l) before ∙ (ap (λ b. list_any test j.updates || b) (own ∙ sym last) ∙ sym (list_any-append test j.updates (u ∷ []))))

module _ (p : Program) (s : State) (sc : Schedule) (ln : List Linked) (ev : Event) (u : Posted) (v : Rooted) (rd : Rendering) (kept : List Kept) where
  -- the state after the update
  abbrev state_after : State
  state_after = accepted (record s { schedule = sc; linked = ln; event = ev }) u

  -- the root after the update
  abbrev root_after : Rooted
  root_after =
      record v {
        rendering = rd;
        resources = kept;
        schedule = after_update sc u.update.lane v.now;
        updates = v.updates + 1;
        event = ev;
        later = union v.later (one u.update.lane);
      }

  progress_after : rd ≡ with_hooks v.rendering rd.hooks → u.update.number ≡ length s.journal.updates → ((g : Progress) → Renders p s g v.rendering → Renders p state_after g rd)
      → (x : Option Progress) → HasProgress p s x v → HasProgress p state_after x root_after
  progress_after same number goes None h =
      record { over = ap (λ (r : Rendering). r.at) same ∙ h.over; empty = ap (λ (r : Rendering). r.trees.draft) same ∙ h.empty }
  progress_after same number goes (Some g) h =
      let past = h.renders.past.updates in
      let behind : nat_le g.cut.updates u.update.number ≡ true = grind (arith, nat_tests, past, number) in
      record {
        renders = goes g h.renders;
        units = ap (λ (r : Rendering). r.units) same ∙ h.units;
        bodies = ap (λ (r : Rendering). r.bodies) same ∙ h.bodies;
        left = subst (λ at. IfLeft at ⊥ → ⊥) (sym (ap (λ (r : Rendering). r.at) same)) h.left;
        lanes_are_set = h.lanes_are_set;
        later = λ l. later_more g.cut s.journal u v.later l (h.later l) behind;
      }

  -- an update is accepted
  pub stands_after : rd ≡ with_hooks v.rendering rd.hooks → u.update.number ≡ length s.journal.updates → ((g : Progress) → Renders p s g v.rendering → Renders p state_after g rd)
      → KeepsAllHooks p state_after (kept_hooks rd.hooks) → LinksBelow state_after → IsReached p state_after
      → KeepsResources p state_after.journal state_after.linked kept → AreDeclared p state_after.journal
      → Stands p s v → Stands p state_after root_after
  stands_after same number goes keeps below reached resources declared h =
      record {
        reached = reached;
        program = ap (λ (r : Rendering). r.program) same ∙ h.program;
        current = subst (λ (r : Rendering). IsTreeOf s.tree r.trees.current) (sym same) h.current;
        seen = ap (λ (r : Rendering). r.seen) same ∙ h.seen;
        numbered = subst (λ (r : Rendering). IsAllNumbered r.trees) (sym same) h.numbered;
        keeps = keeps;
        below = below;
        shows = h.shows;
        schedule = ap (after_update sc u.update.lane) h.now;
        commits = h.commits;
        updates = ap (λ n. n + 1) h.updates ∙ sym (length-append s.journal.updates (u ∷ []));
        resolutions = h.resolutions;
        resources = resources;
        now = h.now;
        event = refl;
        numbers = h.numbers;
        declared = declared;
        progress = progress_after same number goes s.progress h.progress;
      }

-- ---- resolutions

module _ (p : Program) (s : State) (r : ℕ) (x : ℤ) (v : Rooted) where
  -- the root after the resolution
  abbrev root_resolved : Rooted
  root_resolved =
      record v {
        schedule = after_resolution v.schedule r (next_version s.journal r) (is_awaited_in s r (next_version s.journal r)) v.now;
        resolutions = v.resolutions + 1;
        resources = resolved_at x r v.resources;
      }

  progress_resolved : (g : Option Progress) → HasProgress p s g v → HasProgress p (with_value s r x) g root_resolved
  progress_resolved None h = h
  progress_resolved (Some g) h =
      record {
        renders = renders_resolved p s g v.rendering r x h.renders;
        units = h.units;
        bodies = h.bodies;
        left = h.left;
        lanes_are_set = h.lanes_are_set;
        later = h.later;
      }

  -- a resource gets its value
  pub stands_resolved : r < length (resources p) → IsReached p (with_value s r x) → Stands p s v → Stands p (with_value s r x) root_resolved
  stands_resolved within reached h =
      let last : Resolution = record { resource = r; value = x } in
      record {
        reached = reached;
        program = h.program;
        current = h.current;
        seen = h.seen;
        numbered = h.numbered;
        keeps = all_stay s (with_value s r x) refl refl p (kept_hooks v.rendering.hooks) (kept_hooks v.rendering.hooks) refl (λ n. refl) h.keeps;
        below = h.below;
        shows = h.shows;
        schedule =
            ap (λ (sc : Schedule). after_resolution sc r (next_version s.journal r) (is_awaited_in s r (next_version s.journal r)) v.now) h.schedule
            ∙ ap (after_resolution s.schedule r (next_version s.journal r) (is_awaited_in s r (next_version s.journal r))) h.now;
        commits = h.commits;
        updates = h.updates;
        resolutions = ap (λ n. n + 1) h.resolutions ∙ sym (length-append s.journal.resolutions (last ∷ []));
        resources = resolution_stays p s r x v.resources (let all = h.resources.all in omega (arith, all, within)) h.resources;
        now = h.now;
        event = h.event;
        numbers = h.numbers;
        declared = resolution_declared p s r x within h.declared;
        progress = progress_resolved s.progress h.progress;
      }
