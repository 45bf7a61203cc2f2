-- What the plain machine stands for after what renders nothing.
use Rattle.rx_sched.specs.declared.event.Event.{Event}
use Rattle.std.proofs.Common.{◌≡◌, ℕ, ℤ, ◌+◌, ◌<◌, ◌≤◌, map, append-nil, Bool, true, false, ◌&&◌, ◌||◌, nat_le, Option, Some, None, List, [], ◌∷◌, ◌++◌, length, refl, sym, ap, ◌∙◌, subst, arith}
use Rattle.std.specs.Prelude.{option_map}
use Rattle.std.specs.List.{list_any}
use Rattle.std.proofs.lemmas.Bool.Decides.{nat_tests}
use Rattle.std.proofs.lemmas.List.{length-append}
use Rattle.std.proofs.lemmas.List.Folds.{list_any-append}
use Rattle.rx_base.specs.declared.cut.Cut.{Cut}
use Rattle.rx_lane.specs.declared.lane.Lane.{Lane}
use Rattle.rx_lane.specs.Lanes.{Lanes, has, one, same_lane, union}
use Rattle.rx_lane.specs.SetLaws.{has-lanes_where}
use Rattle.rx_ast.specs.Syntax.{Program}
use Rattle.rx_rules.specs.Names.{resources}
use Rattle.rx_queue.specs.Journal.{Journal, Posted, Resolution, has_later, next_version}
use Rattle.rx_sched.specs.Schedule.{Schedule, after_resolution, after_update}
use Rattle.rx_effect.specs.EffectLog.{Passive}
use Rattle.rx_model.specs.State.{Linked, Progress, State}
use Rattle.rx_model.specs.Accepting.{accepted, is_awaited_in, with_value}
use Rattle.rx_model.specs.Committing.{sight_of}
use Rattle.rx_meaning.specs.Fresh.{Sight, resource_numbers}
use Rattle.rx_meaning.specs.Settled.{DoneBefore}
use Rattle.rx_queue.specs.History.{stands_done}
use Rattle.render_laws.specs.SameSight.{SeesSame}
use Rattle.render_laws.proofs.LaterEntries.{longer_sees_same}
use Rattle.rx_resources.specs.Seen.{Resources}
use Rattle.rx_model.specs.HooksOf.{KeepsAllHooks}
use Rattle.rx_model.specs.Laws.{IsReached}
use Rattle.rx_hook_store.specs.Store as hooks
use Rattle.rx_hook_store.specs.Store.{kept_hooks}
use Rattle.rx_hook_store.specs.Commits.{LinksBelow}
use Rattle.rx_hook_store.proofs.Staying.{all_stay}
use Rattle.rx_resources.specs.Kept.{Kept}
use Rattle.rx_resources.specs.Store.{resolved_at}
use Rattle.rx_plain.specs.Plained.{Going, Plained}
use Rattle.rx_plain.specs.Stands.{GoesOnWith, HasProgress, StandsFor, StandsWith}
use Rattle.rx_kept.specs.Keeping.{AreDeclared, KeepsResources}
use Rattle.rx_kept.specs.Seeing.{AreSeen}
use Rattle.rx_plain.specs.Taking.{with_later}
use Rattle.rx_plain.proofs.Keeping.{progress_same}
use Rattle.rx_kept.proofs.Resources.{resolution_declared, resolution_stays}

-- ---- the clock, the event and the passive effects

-- a state with this time, this event and these passive effects
abbrev pub at_time : State → ℕ → Event → Passive → State
at_time s now event passive = record s { now = now; event = event; passive = passive }

-- another time, event or passive effects leave all else
pub stands_at : (p : Program) (s : State) (g : Option Progress) (now : ℕ) (event : Event) (passive : Passive) (v : Plained) → IsReached p (at_time s now event passive) → StandsWith p s g v
    → StandsWith p (at_time s now event passive) g (record v { now = now; event = event; passive = passive })
stands_at p s g now event passive v reached h =
    record {
      reached = reached;
      tree = h.tree;
      keeps = all_stay s (at_time s now event passive) refl refl p (kept_hooks v.hooks) (kept_hooks v.hooks) refl (λ n. refl) h.keeps;
      below = h.below;
      evaluated = h.evaluated;
      schedule = h.schedule;
      commits = h.commits;
      seen = h.seen;
      updates = h.updates;
      resolutions = h.resolutions;
      resources = h.resources;
      now = refl;
      event = refl;
      numbers = h.numbers;
      passive = refl;
      declared = h.declared;
      progress = progress_same p s (at_time s now event passive) g v.going refl refl h.progress;
    }

-- the same, by parts that are equal to these
pub stands_as : (p : Program) (s : State) (g : Option Progress) (now : ℕ) (event : Event) (passive : Passive) (v new : Plained) (clock : ℕ) (ev : Event) (effects : Passive)
    → clock ≡ now → ev ≡ event → effects ≡ passive → new ≡ record v { now = clock; event = ev; passive = effects } → IsReached p (at_time s now event passive) → StandsWith p s g v
    → StandsWith p (at_time s now event passive) g new
stands_as p s g now event passive v new clock ev effects clock_is event_is passive_is is reached h =
    subst (λ (w : Plained). StandsWith p (at_time s now event passive) g w)
    (sym (is ∙ (λ i. record v { now = clock_is i; event = event_is i; passive = passive_is i })))
    (stands_at p s g now event passive v reached h)

-- ---- updates

or_nothing : (b : Bool) → (b || false) ≡ b
or_nothing true = refl
or_nothing false = refl

-- the lanes of the updates since the cut, with one update more behind it
later_more : (cut : Cut) (j : Journal) (u : Posted) (a : Lanes) (l : Lane) → has a l ≡ has_later cut j l → nat_le cut.updates u.update.number ≡ true
    → has (union a (one u.update.lane)) l ≡ has_later cut (record j { updates = j.updates ++ u ∷ [] }) l
later_more cut j u a l before behind =
    let test : Posted → Bool = λ w. nat_le cut.updates w.update.number && same_lane w.update.lane l in
    let both : has (union a (one u.update.lane)) l ≡ (has a l || has (one u.update.lane) l) = has-lanes_where _ l in
    let own : has (one u.update.lane) l ≡ same_lane u.update.lane l = has-lanes_where _ l in
    let last : list_any test (u ∷ []) ≡ same_lane u.update.lane l =
    ap (λ b. (b && same_lane u.update.lane l) || false) behind ∙ or_nothing (same_lane u.update.lane l) in
    both ∙ (ap (λ b. b || has (one u.update.lane) l) before ∙ (ap (λ b. list_any test j.updates || b) (own ∙ sym last) ∙ sym (list_any-append test j.updates (u ∷ []))))

-- A journal with one update more, or with one resolution more

-- what is done still lies before the cut
done_longer : (cut : Cut) (us : List Posted) (u : Posted) → stands_done u.standing ≡ false → DoneBefore cut us → DoneBefore cut (us ++ u ∷ [])
done_longer cut [] u opened h = ((λ d. let e : false ≡ true = sym opened ∙ d in cc), tt)
done_longer cut (w ∷ us) u opened h = (h.0, done_longer cut us u opened h.1)

more_are : {A : Type 0} (n : ℕ) (xs : List A) (x : A) → n ≤ length xs → n ≤ length (xs ++ x ∷ [])
more_are n xs x h = let e = length-append xs (x ∷ []) in omega (arith, e, h)

-- a sight that sees the same sees the same of the resources
seen_same : (s : Sight) (j : Journal) (r : Resources) → SeesSame s j → AreSeen s r → AreSeen (record s { journal = j }) r
seen_same s j r same h =
    record { versions = h.versions ∙ (λ i. map (λ n. same.versions n i) (resource_numbers s.program)); values = h.values ∙ same.resources }

-- a render does if an update is accepted that lies behind its cut
seen_sent : (s : Sight) (u : Posted) (r : Resources) → s.cut.updates ≤ u.update.number → s.cut.resolutions ≤ length s.journal.resolutions → AreSeen s r
    → AreSeen (record s { journal = record s.journal { updates = s.journal.updates ++ u ∷ [] } }) r
seen_sent s u r behind past h =
    let longer : Journal = record { updates = s.journal.updates ++ u ∷ []; resolutions = s.journal.resolutions ++ [] } in
    subst (λ (xs : List Resolution). AreSeen (record s { journal = record { updates = s.journal.updates ++ u ∷ []; resolutions = xs } }) r) (append-nil s.journal.resolutions)
    (seen_same s longer r (longer_sees_same s (u ∷ []) [] (behind, tt) past) h)

-- and if a resource gets a value
seen_resolved : (s : Sight) (last : Resolution) (r : Resources) → s.cut.resolutions ≤ length s.journal.resolutions → AreSeen s r
    → AreSeen (record s { journal = record s.journal { resolutions = s.journal.resolutions ++ last ∷ [] } }) r
seen_resolved s last r past h =
    let longer : Journal = record { updates = s.journal.updates ++ []; resolutions = s.journal.resolutions ++ last ∷ [] } in
    subst (λ (us : List Posted). AreSeen (record s { journal = record { updates = us; resolutions = s.journal.resolutions ++ last ∷ [] } }) r) (append-nil s.journal.updates)
    (seen_same s longer r (longer_sees_same s [] (last ∷ []) tt past) h)

module _ (p : Program) (s : State) (sc : Schedule) (ln : List Linked) (ev : Event) (u : Posted) (v : Plained) (store : hooks.Kept) (kept : List Kept) where
  -- the state after the update
  abbrev state_after : State
  state_after = accepted (record s { schedule = sc; linked = ln; event = ev }) u

  -- the machine after the update
  abbrev pub plain_after : Plained
  plain_after =
      record v {
        hooks = store;
        resources = kept;
        schedule = after_update sc u.update.lane v.now;
        updates = v.updates + 1;
        event = ev;
        going = option_map (with_later u.update.lane) v.going;
      }

  goes_on_after : (g : Progress) (x : Going) → u.update.number ≡ length s.journal.updates → stands_done u.standing ≡ false → GoesOnWith p s g x → GoesOnWith p state_after g (with_later u.update.lane x)
  goes_on_after g x number opened h =
      let past = h.updates in
      let behind : nat_le g.cut.updates u.update.number ≡ true = grind (arith, nat_tests, past, number) in
      record {
        lanes = h.lanes;
        cut = h.cut;
        done = done_longer g.cut s.journal.updates u opened h.done;
        updates = more_are g.cut.updates s.journal.updates u h.updates;
        resolutions = h.resolutions;
        seen = seen_sent (sight_of p s g) u x.seen (omega (arith, past, number)) h.resolutions h.seen;
        units = h.units;
        bodies = h.bodies;
        lanes_are_set = h.lanes_are_set;
        later = λ l. later_more g.cut s.journal u x.later l (h.later l) behind;
      }

  progress_after : (g : Option Progress) (x : Option Going) → u.update.number ≡ length s.journal.updates → stands_done u.standing ≡ false → HasProgress p s g x
      → HasProgress p state_after g (option_map (with_later u.update.lane) x)
  progress_after None None number opened h = tt
  progress_after (Some g) (Some x) number opened h = goes_on_after g x number opened h
  progress_after None (Some x) number opened h = absurd h
  progress_after (Some g) None number opened h = absurd h

  -- an update is accepted
  pub stands_after : u.update.number ≡ length s.journal.updates → stands_done u.standing ≡ false
      → KeepsAllHooks p state_after (kept_hooks store) → LinksBelow state_after → IsReached p state_after
      → KeepsResources p state_after.journal state_after.linked kept → AreDeclared p state_after.journal
      → StandsFor p s v → StandsFor p state_after plain_after
  stands_after number opened keeps below reached res declared h =
      record {
        reached = reached;
        tree = h.tree;
        keeps = keeps;
        below = below;
        evaluated = h.evaluated;
        schedule = ap (after_update sc u.update.lane) h.now;
        commits = h.commits;
        seen = h.seen;
        updates = ap (λ n. n + 1) h.updates ∙ sym (length-append s.journal.updates (u ∷ []));
        resolutions = h.resolutions;
        resources = res;
        now = h.now;
        event = refl;
        numbers = h.numbers;
        passive = h.passive;
        declared = declared;
        progress = progress_after s.progress v.going number opened h.progress;
      }

-- ---- resolutions

module _ (p : Program) (s : State) (r : ℕ) (x : ℤ) (v : Plained) where
  -- the machine after the resolution
  abbrev pub plain_resolved : Plained
  plain_resolved =
      record v {
        schedule = after_resolution v.schedule r (next_version s.journal r) (is_awaited_in s r (next_version s.journal r)) v.now;
        resolutions = v.resolutions + 1;
        resources = resolved_at x r v.resources;
      }

  goes_on_resolved : (g : Progress) (y : Going) → GoesOnWith p s g y → GoesOnWith p (with_value s r x) g y
  goes_on_resolved g y h =
      let last : Resolution = record { resource = r; value = x } in
      record {
        lanes = h.lanes;
        cut = h.cut;
        done = h.done;
        updates = h.updates;
        resolutions = more_are g.cut.resolutions s.journal.resolutions last h.resolutions;
        seen = seen_resolved (sight_of p s g) last y.seen h.resolutions h.seen;
        units = h.units;
        bodies = h.bodies;
        lanes_are_set = h.lanes_are_set;
        later = h.later;
      }

  progress_resolved : (g : Option Progress) (y : Option Going) → HasProgress p s g y → HasProgress p (with_value s r x) g y
  progress_resolved None None h = tt
  progress_resolved (Some g) (Some y) h = goes_on_resolved g y h
  progress_resolved None (Some y) h = absurd h
  progress_resolved (Some g) None h = absurd h

  -- a resource gets its value
  pub stands_resolved : r < length (resources p) → IsReached p (with_value s r x) → StandsFor p s v → StandsFor p (with_value s r x) plain_resolved
  stands_resolved within reached h =
      let last : Resolution = record { resource = r; value = x } in
      record {
        reached = reached;
        tree = h.tree;
        keeps = all_stay s (with_value s r x) refl refl p (kept_hooks v.hooks) (kept_hooks v.hooks) refl (λ n. refl) h.keeps;
        below = h.below;
        evaluated = h.evaluated;
        schedule =
            ap (λ (sc : Schedule). after_resolution sc r (next_version s.journal r) (is_awaited_in s r (next_version s.journal r)) v.now) h.schedule
            ∙ ap (after_resolution s.schedule r (next_version s.journal r) (is_awaited_in s r (next_version s.journal r))) h.now;
        commits = h.commits;
        seen = h.seen;
        updates = h.updates;
        resolutions = ap (λ n. n + 1) h.resolutions ∙ sym (length-append s.journal.resolutions (last ∷ []));
        resources = resolution_stays p s r x v.resources (let all = h.resources.all in omega (arith, all, within)) h.resources;
        now = h.now;
        event = h.event;
        numbers = h.numbers;
        passive = h.passive;
        declared = resolution_declared p s r x within h.declared;
        progress = progress_resolved s.progress v.going h.progress;
      }
