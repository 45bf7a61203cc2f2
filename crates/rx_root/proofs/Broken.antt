-- What a root stands for if memory runs out within a turn.
use Rattle.rx_sched.specs.Events.{no_event}
use Rattle.std.proofs.Common.{◌≡◌, ◌≢◌, inl, inr, ℕ, suc, ◌+◌, ◌-◌, ◌≤◌, true, List, ◌++◌, length, take, refl, sym, ap, ◌∙◌, subst, arith, Some, None}
use Rattle.std.specs.Prelude.{◌⊎◌, OnErr, OnOk, Result, Ok, Err}
use Rattle.rx_ast.specs.Syntax.{Program}
use Rattle.std.proofs.Math.Seq.{take-append_seam}
use Rattle.rx_base.specs.Values.{Text}
use Rattle.rx_elem.specs.Numbers.{Numbers}
use Rattle.rx_lane.specs.declared.lane.Lane.TheVariants as lane
use Rattle.rx_lane.specs.Lanes.{Lanes, has}
use Rattle.rx_step.specs.declared.step.Step.{Step}
use Rattle.rx_sched.specs.declared.choice.Choice.TheVariants as choice
use Rattle.rx_sched.specs.Schedule.{Schedule}
use Rattle.rx_meaning.specs.Settled.{DoneBefore}
use Rattle.rx_effect.specs.EffectLog.{Passive, no_passive}
use Rattle.rx_lines.specs.Lines.{Line, Written, report_bytes}
use Rattle.rx_model.specs.State.{State, Progress}
use Rattle.rx_model.specs.Stretch.{Stretch, silent, followed_by}
use Rattle.rx_model.specs.Committing.{passive_run}
use Rattle.rx_model.specs.HooksOf.{KeepsAllHooks}
use Rattle.rx_model.specs.Breaking.{FlushBreaksOff, HasBegun, TurnBreaksOff}
use Rattle.rx_model.specs.Turns.{Turn, choice_of, unit_bound}
use Rattle.rx_model.specs.Laws.{without_render}
use Rattle.rx_model.proofs.Reached.{discards-reach}
use Rattle.rx_fiber.specs.Reading.{IsTreeOf}
use Rattle.rx_hook_store.specs.Store.{Kept, kept_hooks}
use Rattle.rx_hook_store.proofs.Staying.{all_stay}
use Rattle.rx_commit.specs.Shown.{Shown, Shows}
use Rattle.rx_writing.specs.Written.{passive_lines, with_lines}
use Rattle.rx_render.specs.Rendering.{Rendering}
use Rattle.rx_render.specs.Renders.{with_hooks}
use Rattle.rx_render.specs.Turning.{Proceeds, GivesUp, KeepsHooks}
use Rattle.rx_render.specs.TurningLaws.{keeps_join}
use Rattle.rx_root.specs.Rooted.{Rooted}
use Rattle.rx_root.specs.Stands.{HasRoomFor, StandsBy, StandsButForRender, StandsForSome, StandsWith, Stands}
use Rattle.rx_root.specs.Paying.{Pays}
use Rattle.rx_root.specs.Turning.{GaveUp, HasBroken, HasRoomForTurns, KeepsShown, LeavesRoom, Takes}
use Rattle.rx_root.proofs.TurnLines.{with_none, with_both}
use Rattle.rx_kept.proofs.TurnReached.{reached_passive}
use Rattle.rx_root.proofs.TurnRoom.{Grows, room_after}
use Rattle.rx_root.proofs.TurnStands.{discarded, moved_stands}
use Rattle.rx_root.proofs.TurnsTaken.{on_ok}

-- what a call promises on its Err
pub on_err : {T E : Type 0} (r : Result T E) (A B : Type 0) → (A → B) → OnErr r A → OnErr r B
on_err (Ok x) A B f h = tt
on_err (Err e) A B f h = f h

pub on_err_both : {T E : Type 0} (r : Result T E) (A B C : Type 0) → (A → B → C) → OnErr r A → OnErr r B → OnErr r C
on_err_both (Ok x) A B C f h i = tt
on_err_both (Err e) A B C f h i = f h i

-- a call that ends with an Err promises it
pub any_err : {T E : Type 0} (r : Result T E) (A : Type 0) → A → OnErr r A
any_err (Ok x) A h = tt
any_err (Err e) A h = h

-- Giving up a render

pub gave_up_same : (v : Rooted) → GaveUp v v
gave_up_same v = record { program = refl; current = refl; seen = refl; keeps = λ st done h. h; shows = λ tree passive h. h; rest = refl }

pub gave_up_as : (v w : Rooted) → w ≡ v → GaveUp v w
gave_up_as v w is = subst (λ (z : Rooted). GaveUp v z) (sym is) (gave_up_same v)

-- units gave it up
pub gave_up_units : (v w : Rooted) → w ≡ record v { rendering = w.rendering } → GivesUp v.rendering w.rendering → GaveUp v w
gave_up_units v w is up =
    let shown : w.shown ≡ v.shown = ap (λ (z : Rooted). z.shown) is in
    record {
      program = up.program;
      current = up.current;
      seen = up.seen;
      keeps = up.keeps;
      shows = λ tree passive h. subst (λ (x : Shown). Shows tree passive x) (sym shown) h;
      rest = is ∙ ap (λ (x : Shown). record v { rendering = w.rendering; shown = x }) (sym shown);
    }

-- units went on, and then it was given up
pub gave_up_after : (v m w : Rooted) → m ≡ record v { rendering = m.rendering } → Proceeds v.rendering m.rendering → GaveUp m w → GaveUp v w
gave_up_after v m w is on up =
    let shown : m.shown ≡ v.shown = ap (λ (z : Rooted). z.shown) is in
    record {
      program = up.program ∙ on.program;
      current = up.current ∙ on.current;
      seen = up.seen ∙ on.seen;
      keeps = keeps_join v.rendering m.rendering w.rendering on.cut on.keeps up.keeps;
      shows = λ tree passive h. up.shows tree passive (subst (λ (x : Shown). Shows tree passive x) (sym shown) h);
      rest = up.rest ∙ ap (λ (z : Rooted). record z { rendering = w.rendering; shown = w.shown }) is;
    }

-- new nodes had got their numbers, and then it was given up; the numbers that come next are put back
pub numbered_gave_up : (v x w : Rooted)
    → x ≡ record v { numbers = x.numbers; rendering = record v.rendering { trees = record v.rendering.trees { draft = x.rendering.trees.draft } } }
    → GaveUp x w → GaveUp v (record w { numbers = v.numbers })
numbered_gave_up v x w is up =
    let e : x.rendering ≡ record v.rendering { trees = record v.rendering.trees { draft = x.rendering.trees.draft } } = ap (λ (z : Rooted). z.rendering) is in
    let shown : x.shown ≡ v.shown = ap (λ (z : Rooted). z.shown) is in
    record {
      program = up.program ∙ ap (λ (r : Rendering). r.program) e;
      current = up.current ∙ ap (λ (r : Rendering). r.trees.current) e;
      seen = up.seen ∙ ap (λ (r : Rendering). r.seen) e;
      keeps = subst (λ (r : Rendering). KeepsHooks r w.rendering) e up.keeps;
      shows = λ tree passive h. up.shows tree passive (subst (λ (y : Shown). Shows tree passive y) (sym shown) h);
      rest = ap (λ (z : Rooted). record z { numbers = v.numbers }) up.rest
          ∙ ap (λ (z : Rooted). record z { rendering = w.rendering; shown = w.shown; numbers = v.numbers }) is;
    }

-- a commit was prepared in vain
pub unprepared_gave_up : (v w : Rooted) → w ≡ record v { shown = w.shown } → KeepsShown v.shown w.shown → GaveUp v w
unprepared_gave_up v w is shows =
    let e : w.rendering ≡ v.rendering = ap (λ (z : Rooted). z.rendering) is in
    record {
      program = ap (λ (r : Rendering). r.program) e;
      current = ap (λ (r : Rendering). r.trees.current) e;
      seen = ap (λ (r : Rendering). r.seen) e;
      keeps = subst (λ (r : Rendering). KeepsHooks v.rendering r) (sym e) (λ st done h. h);
      shows = shows;
      rest = is ∙ ap (λ (r : Rendering). record v { rendering = r; shown = w.shown }) (sym e);
    }

-- or its hooks were not settled
pub unsettled_gave_up : (v x w : Rooted) → x ≡ record v { shown = x.shown } → KeepsShown v.shown x.shown → w ≡ record x { rendering = with_hooks x.rendering w.rendering.hooks }
    → KeepsHooks x.rendering w.rendering → GaveUp v w
unsettled_gave_up v x w is shows settled keeps =
    let e : x.rendering ≡ v.rendering = ap (λ (z : Rooted). z.rendering) is in
    let f : w.rendering ≡ with_hooks x.rendering w.rendering.hooks = ap (λ (z : Rooted). z.rendering) settled in
    let shown : w.shown ≡ x.shown = ap (λ (z : Rooted). z.shown) settled in
    record {
      program = ap (λ (r : Rendering). r.program) f ∙ ap (λ (r : Rendering). r.program) e;
      current = ap (λ (r : Rendering). r.trees.current) f ∙ ap (λ (r : Rendering). r.trees.current) e;
      seen = ap (λ (r : Rendering). r.seen) f ∙ ap (λ (r : Rendering). r.seen) e;
      keeps = subst (λ (r : Rendering). KeepsHooks r w.rendering) e keeps;
      shows = λ tree passive h. subst (λ (y : Shown). Shows tree passive y) (sym shown) (shows tree passive h);
      rest = settled ∙ ap (λ (r : Rendering). record x { rendering = r }) (sym f) ∙ ap (λ (z : Rooted). record z { rendering = w.rendering }) is
          ∙ ap (λ (y : Shown). record v { rendering = w.rendering; shown = y }) (sym shown);
    }

-- a root stands for a state but for its render
pub but_for : (p : Program) (s : State) (asks : Rooted → Type 0) (v : Rooted) (w : Rendering) (shown : Shown) → StandsBy p s asks v
    → w.program ≡ v.rendering.program → w.trees.current ≡ v.rendering.trees.current → w.seen ≡ v.rendering.seen → KeepsAllHooks p s (kept_hooks w.hooks) → Shows s.tree s.passive shown
    → StandsButForRender p s (record v { rendering = w; shown = shown })
but_for p s asks v w shown h program current seen keeps shows =
    record {
      reached = h.reached;
      program = program ∙ h.program;
      current = subst (IsTreeOf s.tree) (sym current) h.current;
      seen = seen ∙ h.seen;
      numbered = (h.numbered.0, subst (IsTreeOf h.numbered.0) (sym current) h.numbered.1, h.numbered.2);
      keeps = keeps;
      below = h.below;
      shows = shows;
      schedule = h.schedule;
      commits = h.commits;
      updates = h.updates;
      resolutions = h.resolutions;
      resources = h.resources;
      now = h.now;
      event = h.event;
      numbers = h.numbers;
      declared = h.declared;
      progress = tt;
    }

-- so if a render was in progress, and is given up
pub gave_up_but : (p : Program) (s : State) (g : Progress) (v w : Rooted) → StandsWith p s (Some g) v → GaveUp v w → StandsButForRender p s w
gave_up_but p s g v w h up =
    let done : DoneBefore v.rendering.cut s.journal.updates = rw h.progress.renders.cut h.progress.renders.done in
    let before : KeepsAllHooks v.rendering.program s (kept_hooks v.rendering.hooks) = rw h.program h.keeps in
    let after : KeepsAllHooks p s (kept_hooks w.rendering.hooks) =
    subst (λ (q : Program). KeepsAllHooks q s (kept_hooks w.rendering.hooks)) (up.program ∙ h.program) (up.keeps s done before) in
    subst (λ (z : Rooted). StandsButForRender p s z) (sym up.rest)
    (but_for p s _ v w.rendering w.shown h up.program up.current up.seen after (up.shows s.tree s.passive h.shows))

-- a root whose hooks are settled, and that is about to show another tree
pub prepared_rest : (v x w : Rooted) → x ≡ record v { shown = x.shown } → w ≡ record x { rendering = with_hooks x.rendering w.rendering.hooks }
    → w ≡ record v { rendering = with_hooks v.rendering w.rendering.hooks; shown = w.shown }
prepared_rest v x w is settled =
    settled ∙ ap (λ (z : Rooted). record z { rendering = with_hooks z.rendering w.rendering.hooks }) is
    ∙ ap (λ (y : Shown). record v { rendering = with_hooks v.rendering w.rendering.hooks; shown = y }) (sym (ap (λ (z : Rooted). z.shown) settled))

-- Settling hooks

-- hooks that were not settled stand for what they stood for
pub settled_keeps : (v : Rooted) (x w : Rendering) → x ≡ v.rendering → w ≡ with_hooks x w.hooks
    → ((st : State) → DoneBefore x.cut st.journal.updates → KeepsAllHooks x.program st (kept_hooks x.hooks) → KeepsAllHooks x.program st (kept_hooks w.hooks)) → KeepsHooks v.rendering w
settled_keeps v x w is same keeps =
    subst (λ (r : Rendering). KeepsHooks r w) is
    (λ st done h. subst (λ (q : Program). KeepsAllHooks q st (kept_hooks w.hooks)) (sym (ap (λ (r : Rendering). r.program) same)) (keeps st done h))

-- what a call promises on its Ok or Err, another with the same result promises
pub ok_as : {T E : Type 0} (q r : Result T E) (A B : Type 0) → q ≡ r → (A → B) → OnOk r A → OnOk q B
ok_as q r A B e f h = subst (λ x. OnOk x B) (sym e) (on_ok r A B f h)

pub err_as : {T E : Type 0} (q r : Result T E) (A B : Type 0) → q ≡ r → (A → B) → OnErr r A → OnErr q B
err_as q r A B e f h = subst (λ x. OnErr x B) (sym e) (on_err r A B f h)

-- a report whose new lines are taken back
pub cut_again : (log mid : Written) (len : ℕ) (lines : List Line) → mid ≡ with_lines log lines → len ≡ length log.bytes → record { options = mid.options; bytes = take len mid.bytes } ≡ log
cut_again log mid len lines is at =
    ap (λ (w : Written). record { options = w.options; bytes = take len w.bytes }) is
    ∙ ap (λ (n : ℕ). record { options = log.options; bytes = take n (log.bytes ++ report_bytes log.options lines) }) at
    ∙ ap (λ (t : Text). record { options = log.options; bytes = t }) (take-append_seam log.bytes (report_bytes log.options lines))

-- When a render starts

-- nothing is done
pub none_broken : (p : Program) (s : State) (v new : Rooted) (log written : Written) → Stands p s v → new ≡ v → written ≡ log
    → HasBroken p (λ r. (r ≡ silent s) ⊎ (r ≡ passive_run s)) new log written
none_broken p s v new log written h is same =
    record {
      stretch = silent s;
      asked = inl refl;
      stands = subst (λ (z : Rooted). StandsButForRender p s z) (sym is) (but_for p s _ v v.rendering v.shown h refl refl refl h.keeps h.shows);
      written = same ∙ sym (with_none log);
    }

-- the pending passive effects have run
pub passive_broken : (p : Program) (s : State) (v new : Rooted) (w : Rendering) (shown : Shown) (log written : Written) → Stands p s v → s.event ≡ no_event
    → new ≡ record v { rendering = w; shown = shown } → w.program ≡ v.rendering.program → w.trees.current ≡ v.rendering.trees.current → w.seen ≡ v.rendering.seen → w.hooks ≡ v.rendering.hooks
    → shown ≡ record v.shown { passive = no_passive } → written ≡ with_lines log (passive_lines v.shown.passive)
    → HasBroken p (λ r. (r ≡ silent s) ⊎ (r ≡ passive_run s)) new log written
passive_broken p s v new w shown log written h none is program current seen hooks is_shown is_written =
    let t : State = (passive_run s).after in
    let keeps : KeepsAllHooks p t (kept_hooks w.hooks) =
    subst (λ (x : Kept). KeepsAllHooks p t (kept_hooks x)) (sym hooks)
    (all_stay s t refl refl p (kept_hooks v.rendering.hooks) (kept_hooks v.rendering.hooks) refl (λ n. refl) h.keeps) in
    record {
      stretch = passive_run s;
      asked = inr refl;
      stands = subst (λ (z : Rooted). StandsButForRender p t z) (sym is) (record {
        reached = reached_passive p s h.reached none;
        program = program ∙ h.program;
        current = subst (IsTreeOf s.tree) (sym current) h.current;
        seen = seen ∙ h.seen;
        numbered = (h.numbered.0, subst (IsTreeOf h.numbered.0) (sym current) h.numbered.1, h.numbered.2);
        keeps = keeps;
        below = h.below;
        shows = subst (λ (x : Shown). Shows s.tree no_passive x) (sym is_shown) (record { hosts_are = h.shows.hosts_are; passive_is = refl });
        schedule = h.schedule;
        commits = h.commits;
        updates = h.updates;
        resolutions = h.resolutions;
        resources = h.resources;
        now = h.now;
        event = h.event;
        numbers = h.numbers;
        declared = h.declared;
        progress = tt;
      });
      written = is_written ∙ ap (λ (x : Passive). with_lines log (passive_lines x)) h.shows.passive_is;
    }

-- Turns

-- a render that was to start was not
pub start_broken : (p : Program) (s : State) (lanes : Lanes) (v : Rooted) (log new : Written) → choice_of s ≡ choice.Start lanes
    → HasBroken p (λ r. (r ≡ silent s) ⊎ (r ≡ passive_run s)) v log new → HasBroken p (λ r. (choice_of s ≢ choice.None) × HasBegun s r) v log new
start_broken p s lanes v log new e b =
    record { stretch = b.stretch; asked = (λ none. absurd (let no : choice.Start lanes ≡ choice.None = sym e ∙ none in cc), begun b.asked); stands = b.stands; written = b.written }
  where
    begun : (b.stretch ≡ silent s) ⊎ (b.stretch ≡ passive_run s) → HasBegun s b.stretch
    begun (inl is) = inl is
    begun (inr is) = inr (lanes, e, is)

-- one that had started was given up
pub started_broken : (p : Program) (s : State) (lanes : Lanes) (g : Progress) (v w : Rooted) (log mid : Written) → choice_of s ≡ choice.Start lanes
    → StandsWith p (passive_run s).after (Some g) v → mid ≡ with_lines log (passive_lines s.passive) → GaveUp v w
    → HasBroken p (λ r. (choice_of s ≢ choice.None) × HasBegun s r) w log mid
started_broken p s lanes g v w log mid e h is up =
    record {
      stretch = passive_run s;
      asked = (λ none. absurd (let no : choice.Start lanes ≡ choice.None = sym e ∙ none in cc), inr (lanes, e, refl));
      stands = gave_up_but p (passive_run s).after g v w h up;
      written = is;
    }

-- one that went on was given up
pub kept_broken : (p : Program) (s : State) (g : Progress) (v w : Rooted) (log written : Written) → choice_of s ≡ choice.Keep → StandsWith p s (Some g) v → GaveUp v w → written ≡ log
    → HasBroken p (λ r. (choice_of s ≢ choice.None) × HasBegun s r) w log written
kept_broken p s g v w log written e h up same =
    record {
      stretch = silent s;
      asked = (λ none. absurd (let no : choice.Keep ≡ choice.None = sym e ∙ none in cc), inl refl);
      stands = gave_up_but p s g v w h up;
      written = same ∙ sym (with_none log);
    }

-- its render is discarded
discarded_stands : (p : Program) (s : State) (v : Rooted) (w : Rendering) → StandsButForRender p s v → w ≡ discarded v.rendering → Stands p (without_render s) (record v { rendering = w })
discarded_stands p s v w h is =
    subst (λ (x : Rendering). Stands p (without_render s) (record v { rendering = x })) (sym is)
    (subst (λ (sch : Schedule). Stands p (without_render s) (record v { rendering = discarded v.rendering; schedule = sch })) (sym h.schedule)
    (moved_stands p s _ v s.schedule None (discarded v.rendering) h (discards-reach p s h.reached) refl refl refl h.keeps (record { over = refl; empty = refl })))

-- so the turn breaks off
pub turn_breaks : (p : Program) (s : State) (x v : Rooted) (w : Rendering) (log new : Written) (steps counted : ℕ) → v ≡ x → HasBroken p (λ r. (choice_of s ≢ choice.None) × HasBegun s r) x log new
    → w ≡ discarded v.rendering → steps ≤ counted → counted ≤ steps + unit_bound p → Takes p (TurnBreaksOff p s) (record v { rendering = w }) log new steps counted
turn_breaks p s x v w log new steps counted same h is rises few =
    let b = subst (λ (z : Rooted). HasBroken p (λ r. (choice_of s ≢ choice.None) × HasBegun s r) z log new) (sym same) h in
    record {
      stretch = record b.stretch { bodies = counted - steps; after = without_render b.stretch.after };
      asked = record { some = b.asked.0; begun = b.stretch; has_begun = b.asked.1; wasted = counted - steps; in_bound = omega (arith, few); stretch_is = refl };
      done = record { stands = discarded_stands p b.stretch.after v w b.stands is; written = b.written };
      bodies = omega (arith, rises);
    }

-- Room

begun_grows : (s : State) (r : Stretch) → HasBegun s r → Grows s (without_render r.after)
begun_grows s r (inl is) =
    subst (λ (x : Stretch). Grows s (without_render x.after)) (sym is)
    (record { commits = omega arith; instances = omega arith; hosts = omega arith; updates = refl; resolutions = refl })
begun_grows s r (inr (lanes, e, is)) =
    subst (λ (x : Stretch). Grows s (without_render x.after)) (sym is)
    (record { commits = omega arith; instances = omega arith; hosts = omega arith; updates = refl; resolutions = refl })

broken_grows : (p : Program) (s : State) (r : Stretch) → TurnBreaksOff p s r → Grows s r.after
broken_grows p s r b = subst (λ (x : Stretch). Grows s x.after) (sym b.stretch_is) (begun_grows s b.begun b.has_begun)

-- a turn that breaks off leaves room
pub broken_leaves : (p : Program) (s : State) (v w : Rooted) (log new : Written) (steps counted : ℕ) → Stands p s v → Takes p (TurnBreaksOff p s) w log new steps counted → LeavesRoom 1 v w
broken_leaves p s v w log new steps counted h b =
    let grows = broken_grows p s b.stretch b.asked in
    record {
      room = λ more room.
          let same : 1 + more ≡ suc more = omega arith in
          room_after p s b.stretch.after _ _ v w more h b.done.stands grows (subst (λ (n : ℕ). HasRoomForTurns n v) same room);
      updates = b.done.stands.updates ∙ grows.updates ∙ sym h.updates;
      resolutions = b.done.stands.resolutions ∙ grows.resolutions ∙ sym h.resolutions;
    }

-- Flushes

-- its first turn breaks off
pub flush_breaks : (p : Program) (s : State) (limit : ℕ) (w : Rooted) (log new : Written) (steps counted : ℕ) → 1 ≤ limit → Takes p (TurnBreaksOff p s) w log new steps counted
    → Takes p (FlushBreaksOff Pays limit p s) w log new steps counted
flush_breaks p s limit w log new steps counted few b =
    record { stretch = b.stretch; asked = (0, omega (arith, few), b.asked); done = b.done; bodies = b.bodies }

flush_breaks_suc : (p : Program) (s : State) (limit : ℕ) (x w : Rooted) (log mid new : Written) (steps between counted : ℕ) → choice_of s ≢ choice.None
    → (first : Takes p (Turn Pays p s None) x log mid steps between) → Takes p (FlushBreaksOff Pays limit p first.stretch.after) w mid new between counted
    → Takes p (FlushBreaksOff Pays (suc limit) p s) w log new steps counted
flush_breaks_suc p s limit x w log mid new steps between counted some first rest =
    record {
      stretch = followed_by first.stretch rest.stretch;
      asked = (suc rest.asked.0, omega (arith, rest.asked.1), (some, first.stretch, rest.stretch, first.asked, rest.asked.2, refl));
      done = record {
        stands = rest.done.stands;
        written = rest.done.written ∙ ap (λ (r : Written). with_lines r rest.stretch.lines) first.done.written ∙ with_both log first.stretch.lines rest.stretch.lines;
      };
      bodies = omega (arith, rest.bodies, first.bodies);
    }

-- one that follows does
pub flush_breaks_later : (limit : ℕ) (p : Program) (s : State) (x w : Rooted) (log mid new : Written) (steps between counted : ℕ) → 1 ≤ limit → choice_of s ≢ choice.None
    → (first : Takes p (Turn Pays p s None) x log mid steps between) → Takes p (FlushBreaksOff Pays (limit - 1) p first.stretch.after) w mid new between counted
    → Takes p (FlushBreaksOff Pays limit p s) w log new steps counted
flush_breaks_later limit p s x w log mid new steps between counted some_left some first rest =
    let sum : suc (limit - 1) ≡ limit = omega (arith, some_left) in
    subst (λ (n : ℕ). Takes p (FlushBreaksOff Pays n p s) w log new steps counted) sum (flush_breaks_suc p s (limit - 1) x w log mid new steps between counted some first rest)

-- a flush of Sync alone
pub sync_breaks : (p : Program) (s : State) (w : Rooted) (log new : Written) (steps counted : ℕ) → has s.schedule.pending lane.Sync ≡ true → Takes p (TurnBreaksOff p s) w log new steps counted
    → Takes p (λ r. (has s.schedule.pending lane.Sync ≡ true) × TurnBreaksOff p s r) w log new steps counted
sync_breaks p s w log new steps counted e b = record { stretch = b.stretch; asked = (e, b.asked); done = b.done; bodies = b.bodies }

-- Steps

-- a root that stands for a state stands for some
pub for_some : (p : Program) (s : State) (v : Rooted) → Stands p s v → StandsForSome v
for_some p s v h = (s, subst (λ (q : Program). Stands q s v) (sym h.program) h)

-- however a call that renders ends, its root stands for some state
pub either_some : {T E : Type 0} (r : Result T E) (p : Program) (s : State) (v w : Rooted) (asks breaks : State → Stretch → Type 0) (log new : Written) (steps counted : ℕ) → Stands p s v
    → OnOk r ((s : State) → Stands p s v → Takes p (asks s) w log new steps counted) → OnErr r ((s : State) → Stands p s v → Takes p (breaks s) w log new steps counted)
    → StandsForSome w
either_some (Ok x) p s v w asks breaks log new steps counted h ok err = let t = ok s h in for_some p t.stretch.after w t.done.stands
either_some (Err e) p s v w asks breaks log new steps counted h ok err = let t = err s h in for_some p t.stretch.after w t.done.stands

-- and its program stays
pub either_program : {T E : Type 0} (r : Result T E) (p : Program) (s : State) (v w : Rooted) (asks breaks : State → Stretch → Type 0) (log new : Written) (steps counted : ℕ) → Stands p s v
    → OnOk r ((s : State) → Stands p s v → Takes p (asks s) w log new steps counted) → OnErr r ((s : State) → Stands p s v → Takes p (breaks s) w log new steps counted)
    → w.rendering.program ≡ p
either_program (Ok x) p s v w asks breaks log new steps counted h ok err = (ok s h).done.stands.program
either_program (Err e) p s v w asks breaks log new steps counted h ok err = (err s h).done.stands.program

-- the same if a call renders nothing
pub aside_some : {T E : Type 0} (r : Result T E) (p : Program) (s : State) (v w : Rooted) (asks breaks : State → Stretch → Type 0) (log new : Written) → Stands p s v
    → OnOk r ((s : State) (n : ℕ) → Stands p s v → Takes p (asks s) w log new n n) → OnErr r ((s : State) (n : ℕ) → Stands p s v → Takes p (breaks s) w log new n n)
    → StandsForSome w
aside_some (Ok x) p s v w asks breaks log new h ok err = let t = ok s 0 h in for_some p t.stretch.after w t.done.stands
aside_some (Err e) p s v w asks breaks log new h ok err = let t = err s 0 h in for_some p t.stretch.after w t.done.stands

pub aside_program : {T E : Type 0} (r : Result T E) (p : Program) (s : State) (v w : Rooted) (asks breaks : State → Stretch → Type 0) (log new : Written) → Stands p s v
    → OnOk r ((s : State) (n : ℕ) → Stands p s v → Takes p (asks s) w log new n n) → OnErr r ((s : State) (n : ℕ) → Stands p s v → Takes p (breaks s) w log new n n)
    → w.rendering.program ≡ p
aside_program (Ok x) p s v w asks breaks log new h ok err = (ok s 0 h).done.stands.program
aside_program (Err e) p s v w asks breaks log new h ok err = (err s 0 h).done.stands.program

-- a step, whichever it is
pub step_as : (asks : Step → Stretch → Type 0) (p : Program) (x y : Step) (v : Rooted) (log new : Written) (steps counted : ℕ) → y ≡ x → Takes p (asks x) v log new steps counted → Takes p (asks y) v log new steps counted
step_as asks p x y v log new steps counted e t = subst (λ (z : Step). Takes p (asks z) v log new steps counted) (sym e) t

-- a step that renders nothing, and does nothing
pub nothing_taken : (asks : Stretch → Type 0) (p : Program) (s : State) (w : Rooted) (log new : Written) (steps : ℕ) → asks (silent s) → Stands p s w → new ≡ log → Takes p asks w log new steps steps
nothing_taken asks p s w log new steps asked h same =
    record { stretch = silent s; asked = asked; done = record { stands = h; written = same ∙ sym (with_none log) }; bodies = omega arith }

-- what holds whichever way a call ends
pub by_result : {T E : Type 0} (r : Result T E) (A : Type 0) → OnOk r A → OnErr r A → A
by_result (Ok x) A ok err = ok
by_result (Err e) A ok err = err

-- room is kept if no number changes
pub room_same : (v w : Rooted) → w.updates ≡ v.updates → w.resolutions ≡ v.resolutions → w.commits ≡ v.commits → w.numbers ≡ v.numbers → (k : ℕ) → HasRoomFor k v → HasRoomFor k w
room_same v w updates resolutions commits numbers k h =
    let instances : w.numbers.instance ≡ v.numbers.instance = ap (λ (m : Numbers). m.instance) numbers in
    let hosts : w.numbers.host ≡ v.numbers.host = ap (λ (m : Numbers). m.host) numbers in
    record {
      updates = omega (arith, updates, h.updates);
      resolutions = omega (arith, resolutions, h.resolutions);
      commits = omega (arith, commits, h.commits);
      instances = omega (arith, instances, h.instances);
      hosts = omega (arith, hosts, h.hosts);
    }

-- room for one step more is room without it
pub room_less : (v : Rooted) (k : ℕ) → HasRoomFor (suc k) v → HasRoomFor k v
room_less v k h =
    record {
      updates = omega (arith, h.updates);
      resolutions = omega (arith, h.resolutions);
      commits = omega (arith, h.commits);
      instances = omega (arith, h.instances);
      hosts = omega (arith, h.hosts);
    }

-- one update or one resolution takes the room of one step
pub room_sent : (v w : Rooted) → w.updates ≤ v.updates + 1 → w.resolutions ≤ v.resolutions + 1 → w.commits ≡ v.commits → w.numbers ≡ v.numbers → (k : ℕ) → HasRoomFor (suc k) v → HasRoomFor k w
room_sent v w updates resolutions commits numbers k h =
    let instances : w.numbers.instance ≡ v.numbers.instance = ap (λ (m : Numbers). m.instance) numbers in
    let hosts : w.numbers.host ≡ v.numbers.host = ap (λ (m : Numbers). m.host) numbers in
    record {
      updates = omega (arith, updates, h.updates);
      resolutions = omega (arith, resolutions, h.resolutions);
      commits = omega (arith, commits, h.commits);
      instances = omega (arith, instances, h.instances);
      hosts = omega (arith, hosts, h.hosts);
    }
