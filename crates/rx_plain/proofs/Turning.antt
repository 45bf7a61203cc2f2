-- What the plain machine stands for while a render goes on.
use Rattle.rx_sched.specs.declared.event.Event.{Event}
use Rattle.rx_sched.specs.Events.{no_event}
use Rattle.std.proofs.Common.{◌≡◌, ℕ, ◌+◌, ◌<◌, ◌≤◌, Bool, true, false, List, [], ◌∷◌, length, refl, sym, ap, ◌∙◌, subst, arith, Option, Some, None}
use Rattle.std.specs.Prelude.{◌&&◌, IsSome, nat_le, option_map, slice_get, if◌then◌else◌}
use Rattle.std.specs.List.{list_any, AllByRecursion}
use Rattle.std.proofs.lemmas.Bool.Decides.{nat_tests}
use Rattle.rx_base.specs.declared.cut.Cut.{Cut}
use Rattle.rx_lane.specs.declared.lane.Lane.{Lane}
use Rattle.rx_lane.specs.Lanes.{Lanes, has, no_lanes, same_lane}
use Rattle.rx_ast.specs.Syntax.{Program}
use Rattle.rx_elem.specs.Spots.{Mounted, mounted}
use Rattle.rx_elem.specs.Trees.{Node}
use Rattle.rx_queue.specs.Journal.{Posted, cut_now, has_later}
use Rattle.rx_sched.specs.Schedule.{is_sliced}
use Rattle.rx_step.specs.declared.step.Step.TheVariants as step
use Rattle.rx_elem.specs.Elements.{Element}
use Rattle.rx_meaning.specs.Fresh.{Contexts, Sight, default_contexts, depth_limit, fresh, made, rendered, root_element}
use Rattle.rx_meaning.specs.Settled.{DoneBefore}
use Rattle.rx_effect.specs.EffectLog.{no_passive}
use Rattle.rx_model.specs.State.{Progress, State}
use Rattle.rx_model.specs.Accepting.{between_events}
use Rattle.rx_model.specs.Committing.{passive_run, sight_of, starting}
use Rattle.rx_model.specs.HooksOf.{KeepsAllHooks}
use Rattle.rx_model.specs.Kept.{IsSet}
use Rattle.rx_model.specs.Laws.{IsReached, NeverWaits}
use Rattle.rx_model.specs.Turns.{gone_on, slice_of}
use Rattle.rx_model.proofs.Reached.{reached-can, step-reached}
use Rattle.run_laws.specs.Carried.{NumbersBelow}
use Rattle.run_laws.proofs.Carrying.{all_accounted, done_before}
use Rattle.end_laws.specs.Trimmed.{trimmed, trimmed_if}
use Rattle.end_laws.specs.Places.{trimmed_place}
use Rattle.rx_hook_store.specs.Store as hooks
use Rattle.rx_fresh.specs.Evaluated.{AreEvaluated, Evaluation}
use Rattle.rx_hook_store.specs.Store.{kept_hooks}
use Rattle.rx_hook_store.specs.Gives.{GivesValues}
use Rattle.rx_hook_store.proofs.Staying.{all_stay, there_is}
use Rattle.rx_hook_store.proofs.Stores.{each-keeps, keeps-give}
use Rattle.end_laws.proofs.Read.{mounted_same}
use Rattle.rx_resources.specs.Seen.{Resources, seen_of}
use Rattle.rx_plain.specs.Plained.{Going, Plained}
use Rattle.rx_plain.specs.Stands.{GoesOnWith, HasProgress, StandsBy, StandsFor, StandsWith}
use Rattle.rx_plain.specs.Taking.{with_units}
use Rattle.rx_plain.proofs.Keeping.{goes_on_same}
use Rattle.rx_kept.proofs.Resources.{seen_is}
use Rattle.rx_plain.proofs.Standing.{stands_as}

-- ---- the start of a render

-- a state between two events
same_between : (s : State) → s.event ≡ no_event → s ≡ between_events s
same_between s h = ap (λ (e : Event). record s { event = e }) h

-- the state after the pending passive effects ran is one that a run comes to
pub reached_passive : (p : Program) (s : State) → IsReached p s → s.event ≡ no_event → IsReached p (passive_run s).after
reached_passive p s h none =
    subst (λ (u : State). IsReached p (passive_run u).after) (sym (same_between s none))
    (step-reached p s step.Passive (passive_run (between_events s)) h refl)

-- no update is later than a cut that is made now
later_none : (b : ℕ) (l : Lane) (us : List Posted) → AllByRecursion (λ u. u.update.number < b) us
    → list_any (λ u. nat_le b u.update.number && same_lane u.update.lane l) us ≡ false
later_none b l [] all = refl
later_none b l (u ∷ us) all =
    let no : nat_le b u.update.number ≡ false = grind (arith, nat_tests, all.0) in
    rw (no, later_none b l us all.1) refl

no_later : (p : Program) (s : State) → IsReached p s → (l : Lane) → has no_lanes l ≡ has_later (cut_now s.journal) s.journal l
no_later p s reached l = sym (later_none (length s.journal.updates) l s.journal.updates (reached-can p s reached).below)

-- and what is done lies before it
numbers_below : (b : ℕ) (us : List Posted) → AllByRecursion (λ u. u.update.number < b) us → NumbersBelow b us
numbers_below b [] all = tt
numbers_below b (u ∷ us) all = (all.0, numbers_below b us all.1)

done_now : (p : Program) (s : State) → IsReached p s → DoneBefore (cut_now s.journal) s.journal.updates
done_now p s reached =
    done_before (cut_now s.journal) s.journal.updates
    (all_accounted (cut_now s.journal) s.journal.updates (numbers_below (length s.journal.updates) s.journal.updates (reached-can p s reached).below))

-- a render that starts now
abbrev pub new_going : Lanes → Cut → Resources → Going
new_going lanes cut seen = record { lanes = lanes; cut = cut; seen = seen; units = 0; later = no_lanes }

started : (p : Program) (s : State) (lanes : Lanes) (v : Plained) → StandsFor p s v → IsReached p (passive_run s).after → IsSet lanes
    → GoesOnWith p (passive_run s).after (starting s lanes) (new_going lanes (cut_now s.journal) (seen_of lanes (cut_now s.journal) v.resources))
started p s lanes v h reached set =
    let done = done_now p s h.reached in
    let seen = seen_is p s.journal s.linked v.resources lanes h.resources done s.seen in
    record {
      lanes = refl;
      cut = refl;
      done = done;
      updates = omega arith;
      resolutions = omega arith;
      seen = record { versions = ap (λ (r : Resources). r.versions) seen; values = ap (λ (r : Resources). r.values) seen };
      units = refl;
      bodies = omega arith;
      lanes_are_set = set;
      later = no_later p s h.reached;
    }

-- another render is in progress, or none
pub with_progress : (p : Program) (s : State) (asks : Option Going → Type 0) (g : Option Progress) (v : Plained) (x : Option Going) → StandsBy p s asks v → HasProgress p s g x
    → StandsWith p s g (record v { going = x })
with_progress p s asks g v x h has =
    record {
      reached = h.reached;
      tree = h.tree;
      keeps = h.keeps;
      below = h.below;
      evaluated = h.evaluated;
      schedule = h.schedule;
      commits = h.commits;
      seen = h.seen;
      updates = h.updates;
      resolutions = h.resolutions;
      resources = h.resources;
      now = h.now;
      event = h.event;
      numbers = h.numbers;
      passive = h.passive;
      declared = h.declared;
      progress = has;
    }

-- the machine stands for the state with the render that starts
pub started_stands : (p : Program) (s : State) (lanes : Lanes) (v new : Plained) (cut : Cut) (seen : Resources) (later : Lanes) → StandsFor p s v → s.event ≡ no_event → IsSet lanes
    → cut ≡ record { updates = v.updates; resolutions = v.resolutions } → seen ≡ seen_of lanes cut v.resources → later ≡ no_lanes
    → new ≡ record v { passive = no_passive; going = Some (record { lanes = lanes; cut = cut; seen = seen; units = 0; later = later }) }
    → StandsWith p (passive_run s).after (Some (starting s lanes)) new
started_stands p s lanes v new cut seen later h none set cut_is seen_are later_is is =
    let after : State = (passive_run s).after in
    let now : cut ≡ cut_now s.journal = cut_is ∙ (λ i. record { updates = h.updates i; resolutions = h.resolutions i }) in
    let sees : seen ≡ seen_of lanes (cut_now s.journal) v.resources = seen_are ∙ ap (λ (c : Cut). seen_of lanes c v.resources) now in
    let reached = reached_passive p s h.reached none in
    let ran : StandsWith p after s.progress (record v { passive = no_passive }) =
    stands_as p s s.progress s.now s.event no_passive v (record v { passive = no_passive }) v.now v.event no_passive h.now h.event refl refl reached h in
    subst (λ (w : Plained). StandsWith p after (Some (starting s lanes)) w)
    (sym (is ∙ (λ i. record v { passive = no_passive; going = Some (record { lanes = lanes; cut = now i; seen = sees i; units = 0; later = later_is i }) })))
    (with_progress p after (HasProgress p after s.progress) (Some (starting s lanes)) (record v { passive = no_passive }) (Some (new_going lanes (cut_now s.journal) (seen_of lanes (cut_now s.journal) v.resources))) ran
    (started p s lanes v h reached set))

-- ---- a render that goes on

-- with more units, of which each had a body at most
goes_further : (p : Program) (s t : State) (g : Progress) (x : Going) (units bodies : ℕ) → t.journal ≡ s.journal → t.seen ≡ s.seen → bodies ≤ units → GoesOnWith p s g x
    → GoesOnWith p t (gone_on g units bodies) (record x { units = x.units + units })
goes_further p s t g x units bodies journal seen few h =
    let k = goes_on_same p s t g x journal seen h in
    record {
      lanes = k.lanes;
      cut = k.cut;
      done = k.done;
      updates = k.updates;
      resolutions = k.resolutions;
      seen = record { versions = k.seen.versions; values = k.seen.values };
      units = ap (λ (n : ℕ). n + units) k.units;
      bodies = (let b = k.bodies in omega (arith, b, few));
      lanes_are_set = k.lanes_are_set;
      later = k.later;
    }

-- what the render that a machine has in progress is
pub is_going : (p : Program) (s : State) (g : Progress) (o : Option Going) → HasProgress p s (Some g) o → (x : Going) × (o ≡ Some x) × GoesOnWith p s g x
is_going p s g None h = absurd h
is_going p s g (Some x) h = (x, refl, h)

-- the state with another render in progress
pub progress_stands : (p : Program) (s : State) (g : Progress) (o : Option Progress) (v : Plained) (x : Option Going) → StandsWith p s (Some g) v → IsReached p (record s { progress = o })
    → HasProgress p (record s { progress = o }) o x → StandsFor p (record s { progress = o }) (record v { going = x })
progress_stands p s g o v x h reached has =
    record {
      reached = reached;
      tree = h.tree;
      keeps = all_stay s (record s { progress = o }) refl refl p (kept_hooks v.hooks) (kept_hooks v.hooks) refl (λ n. refl) h.keeps;
      below = h.below;
      evaluated = h.evaluated;
      schedule = h.schedule;
      commits = h.commits;
      seen = h.seen;
      updates = h.updates;
      resolutions = h.resolutions;
      resources = h.resources;
      now = h.now;
      event = h.event;
      numbers = h.numbers;
      passive = h.passive;
      declared = h.declared;
      progress = has;
    }

-- a render has used so many more units
pub further_stands : (p : Program) (s : State) (g : Progress) (v new : Plained) (units bodies : ℕ) → StandsWith p s (Some g) v → bodies ≤ units
    → IsReached p (record s { progress = Some (gone_on g units bodies) }) → new ≡ record v { going = option_map (with_units units) v.going }
    → StandsFor p (record s { progress = Some (gone_on g units bodies) }) new
further_stands p s g v new units bodies h few reached is =
    let t : State = record s { progress = Some (gone_on g units bodies) } in
    let on = is_going p s g v.going h.progress in
    let same : option_map (with_units units) v.going ≡ Some (record on.0 { units = on.0.units + units }) = ap (option_map (with_units units)) on.1 in
    subst (λ (w : Plained). StandsFor p t w) (sym (is ∙ ap (λ (o : Option Going). record v { going = o }) same))
    (progress_stands p s g (Some (gone_on g units bodies)) v (Some (record on.0 { units = on.0.units + units })) h reached (goes_further p s t g on.0 units bodies refl refl few on.2))

-- ---- what is rendered

-- hooks that stand for the same, and evaluations that are right, leave all else
pub rendered_stands : (p : Program) (s : State) (g : Progress) (v new : Plained) (store : hooks.Kept) (evaluations : List (ℕ × Evaluation)) → StandsWith p s (Some g) v → new ≡ record v { hooks = store; evaluations = evaluations }
    → AreEvaluated p evaluations → KeepsAllHooks p s (kept_hooks store)
    → StandsWith p s (Some g) new
rendered_stands p s g v new store evaluations h is evaluated keeps =
    subst (λ (w : Plained). StandsWith p s (Some g) w) (sym is)
    (record {
      reached = h.reached;
      tree = h.tree;
      keeps = keeps;
      below = h.below;
      evaluated = evaluated;
      schedule = h.schedule;
      commits = h.commits;
      seen = h.seen;
      updates = h.updates;
      resolutions = h.resolutions;
      resources = h.resources;
      now = h.now;
      event = h.event;
      numbers = h.numbers;
      passive = h.passive;
      declared = h.declared;
      progress = h.progress;
    })

-- what a render gives, beside the trimmed tree
pub gives_same : (p : Program) (s : State) (g : Progress) (n : Node) → NeverWaits p
    → ((old : Option Node) → trimmed_place (fresh (sight_of p s g) (trimmed_if old)) ≡ trimmed_place (fresh (sight_of p s g) old)) → made n ≡ fresh (sight_of p s g) (trimmed_if s.tree)
    → (x : Node) × (fresh (sight_of p s g) s.tree ≡ made x) × (trimmed n ≡ trimmed x)
gives_same p s g n never ends is =
    let x = never (sight_of p s g) s.tree refl in
    let same : made (trimmed n) ≡ made (trimmed x.0) = ap trimmed_place is ∙ ends s.tree ∙ ap trimmed_place x.1 in
    (x.0, x.1, (let trees : trimmed n ≡ trimmed x.0 = cc in trees))

-- ---- what is asked of the render in progress

-- its lanes
pub lanes_in_progress : (p : Program) (s : State) (g : Option Progress) (x : Option Going) → HasProgress p s g x → option_map (λ (y : Going). y.lanes) x ≡ option_map (λ (y : Progress). y.lanes) g
lanes_in_progress p s None None h = refl
lanes_in_progress p s (Some g) (Some x) h = ap (λ (ls : Lanes). Some ls) h.lanes
lanes_in_progress p s None (Some x) h = absurd h
lanes_in_progress p s (Some g) None h = absurd h

-- the slice of a turn, by whether it is cut into slices
pub sliced_so : (s : State) (g : Progress) (budget : Option ℕ) (b : Bool) → b ≡ is_sliced s.schedule g.lanes s.now → b ≡ true → budget ≡ slice_of s g budget
sliced_so s g None b same is = refl
sliced_so s g (Some n) b same is = ap (λ (c : Bool). if c then Some n else None) (sym is ∙ same)

pub unsliced_so : (s : State) (g : Progress) (budget : Option ℕ) (b : Bool) → b ≡ is_sliced s.schedule g.lanes s.now → b ≡ false → None ≡ slice_of s g budget
unsliced_so s g None b same is = refl
unsliced_so s g (Some n) b same is = ap (λ (c : Bool). if c then Some n else None) (sym is ∙ same)

-- the hooks of the mounted instances are there, and give the render their values
module _ (p : Program) (s : State) (g : Progress) (v : Plained) (h : StandsWith p s (Some g) v) (old : Option Node) (same : old ≡ v.tree) (store : hooks.Kept) (kept : store ≡ v.hooks) where
  still_mounted : (k : ℕ) (m : Mounted) → slice_get (mounted old) k ≡ Some m → slice_get (mounted s.tree) k ≡ Some m
  still_mounted k m at = ap (λ (ms : List Mounted). slice_get ms k) (sym (ap (λ (t : Option Node). mounted t) (same ∙ h.tree) ∙ mounted_same s.tree)) ∙ at

  keeps_here : KeepsAllHooks p s (kept_hooks store)
  keeps_here = subst (λ (x : hooks.Kept). KeepsAllHooks p s (kept_hooks x)) (sym kept) h.keeps

  pub hooks_there : (k : ℕ) (m : Mounted) → slice_get (mounted old) k ≡ Some m → IsSome (kept_hooks store m.number)
  hooks_there k m at = there_is p s (kept_hooks store) m.number m.initials (each-keeps p s (kept_hooks store) keeps_here k m (still_mounted k m at))

  pub hooks_give : (k : ℕ) (m : Mounted) → slice_get (mounted old) k ≡ Some m → GivesValues (sight_of p s g) (kept_hooks store) m.number m.initials
  hooks_give k m at =
      keeps-give p s g (kept_hooks store) m.number m.initials (is_going p s g v.going h.progress).2.done (each-keeps p s (kept_hooks store) keeps_here k m (still_mounted k m at))

-- a render against the trimmed tree gives the same, trimmed
pub fresh_ends : ((n : ℕ) (s : Sight) (cs : Contexts) (e : Element) (old : Option Node) → trimmed_place (rendered n s cs e (trimmed_if old)) ≡ trimmed_place (rendered n s cs e old)) → (s : Sight) (old : Option Node)
    → trimmed_place (fresh s (trimmed_if old)) ≡ trimmed_place (fresh s old)
unfolding fresh
fresh_ends ends s old = ends depth_limit s (default_contexts s.program) (root_element s.program) old
