-- What a root stands for after a dispatch.
use Rattle.rx_sched.specs.declared.event.Event.{Event}
use Rattle.std.proofs.Common.{◌≡◌, ℕ, ◌+◌, ◌<◌, ◌≤◌, true, length, refl, sym, ap, ◌∙◌, subst, arith, Option, Some, None, List}
use Rattle.std.specs.Prelude.{is_none, slice_get, if◌then◌else◌}
use Rattle.rx_lane.specs.declared.lane.Lane.{Lane}
use Rattle.rx_lane.specs.Lanes.{Lanes, one, union}
use Rattle.rx_ast.specs.Syntax.{Program}
use Rattle.rx_rules.specs.Names.{has_name}
use Rattle.rx_check.specs.Accepted.{IsAccepted}
use Rattle.rx_elem.specs.Spots.{Mounted, mounted}
use Rattle.rx_elem.specs.Trees.{Node}
use Rattle.rx_hooks.specs.declared.hook.Hook.{Hook}
use Rattle.std.specs.Option.{IsSomeAnd}
use Rattle.rx_queue.specs.declared.update.Op.{Op}
use Rattle.rx_queue.specs.declared.update.Update.{Update}
use Rattle.rx_queue.specs.declared.update.Op.TheVariants.{Refresh}
use Rattle.rx_queue.specs.Journal.{Target, hook, resource}
use Rattle.rx_sched.specs.Schedule.{Schedule, after_update, claimed, linked as linked_lanes_of}
use Rattle.rx_hooks.specs.Hooks.{links_with}
use Rattle.rx_step.specs.declared.step.Dispatch.{Dispatch}
use Rattle.rx_step.specs.declared.step.LaneWord.{LaneWord}
use Rattle.rx_step.specs.declared.step.LaneWord.TheVariants as word
use Rattle.rx_step.specs.declared.step.Step.TheVariants as step
use Rattle.rx_step.specs.Steps.{hook_name, path_of}
use Rattle.rx_model.specs.State.{Progress, State, hook_number, hooks_at, instance_found, linked_lanes}
use Rattle.rx_model.specs.Accepting.{accepted, claimed_if_first, dispatched_for, lane_of, next_update, op_of, with_linked}
use Rattle.rx_model.specs.HooksOf.{KeepsAllHooks}
use Rattle.rx_model.specs.Laws.{IsBounded, IsReached}
use Rattle.run_laws.proofs.AlongRuns.{reached_carries}
use Rattle.run_laws.proofs.RunTrees.{reached_tree}
use Rattle.rx_fiber.specs.Reading.{IsTreeOf}
use Rattle.rx_read.specs.Numbering.{IsAllNumbered}
use Rattle.rx_hook_store.specs.Store.{kept_hooks}
use Rattle.rx_hook_store.specs.Changing.{lanes_linked}
use Rattle.rx_hook_store.specs.Commits.{LinksBelow}
use Rattle.rx_hook_store.proofs.Numbered.{mounted_below}
use Rattle.rx_hook_store.proofs.Dispatching.{keeps_refreshed}
use Rattle.rx_hook_store.proofs.Staying.{all_stay, hook_is}
use Rattle.rx_hook_store.proofs.Stores.{each-keeps}
use Rattle.rx_render.specs.declared.at.At.{At}
use Rattle.rx_render.specs.declared.at.At.TheVariants.{Begins, Completes, Over}
use Rattle.rx_render.specs.Rendering.{IfLeft, Rendering}
use Rattle.rx_render.specs.Renders.{Renders, with_hooks}
use Rattle.rx_render.proofs.Later.{renders_later}
use Rattle.rx_render.proofs.Sending.{dispatch_later}
use Rattle.rx_root.specs.declared.events.Sent.{Sent}
use Rattle.rx_root.specs.Rooted.{Rooted}
use Rattle.rx_resources.specs.Kept.{Kept}
use Rattle.rx_root.specs.Stands.{HasProgress, Stands}
use Rattle.rx_kept.specs.Keeping.{AreDeclared, KeepsResources}
use Rattle.rx_root.specs.Taking.{IsFor, root_accepted}
use Rattle.rx_kept.specs.Taking.{CanTake, claimed_by}
use Rattle.rx_kept.proofs.HookCounts.{mounted_hooks}
use Rattle.rx_kept.proofs.Paths.{dispatch_hook, found_hook, found_there}
use Rattle.rx_root.proofs.Standing.{stands_after}

-- ---- where a dispatch goes

-- the instance that was found is the one that the dispatch is for, by its hook
pub is_for : (p : Program) (s : State) (v : Rooted) (d : Dispatch) (m : Mounted) (sent : Sent) → IsAccepted p → Stands p s v → CanTake p (step.Dispatch d)
    → instance_found p s.tree (path_of d) ≡ Some m → sent.instance ≡ m.number → sent.place ≡ hook_number p m.component (hook_name d)
    → (has_name (hooks_at p m.component) (hook_name d) ≡ true → sent.place < length (hooks_at p m.component)) → sent.op ≡ op_of p m.component d → IsFor p s d sent
is_for p s v d m sent accepted h can here number place below op =
    let there = found_there p (mounted s.tree) (path_of d) m here in
    let named = dispatch_hook p d can (λ none. let f : None ≡ Some m = sym (ap (instance_found p s.tree) none) ∙ here in cc) in
    let has = found_hook p accepted (mounted s.tree) (mounted_hooks p s.tree (reached_tree p s h.reached)) (path_of d) (hook_name d) named.0 named.1 m here in
    record {
      place_in_tree = there.0;
      instance = m;
      there = there.1;
      found = here;
      number = number;
      hook = place;
      below = omega (arith, below has.named, has.each);
      op = op;
    }

-- a dispatch is for the same in a state with the same tree
pub for_after : (p : Program) (s t : State) (d : Dispatch) (sent : Sent) → t.tree ≡ s.tree → IsFor p s d sent → IsFor p t d sent
for_after p s t d sent same is =
    record {
      place_in_tree = is.place_in_tree;
      instance = is.instance;
      there = ap (λ (x : Option Node). slice_get (mounted x) is.place_in_tree) same ∙ is.there;
      found = ap (λ (x : Option Node). instance_found p x (path_of d)) same ∙ is.found;
      number = is.number;
      hook = is.hook;
      below = is.below;
      op = is.op;
    }

-- the hook that a dispatch is for is kept
pub hook_kept : (p : Program) (s : State) (v : Rooted) (d : Dispatch) (sent : Sent) → Stands p s v → IsFor p s d sent
    → IsSomeAnd (kept_hooks v.rendering.hooks sent.instance) (λ (hooks : List Hook). sent.place < length hooks)
hook_kept p s v d sent h is =
    subst (λ (n : ℕ). IsSomeAnd (kept_hooks v.rendering.hooks n) (λ (hooks : List Hook). sent.place < length hooks)) (sym is.number)
    (hook_is p s (kept_hooks v.rendering.hooks) is.instance.number sent.place is.instance.initials is.below
    (each-keeps p s (kept_hooks v.rendering.hooks) h.keeps is.place_in_tree is.instance is.there))

-- an update that comes now lies behind the cut of a render in progress
pub lies_behind : (p : Program) (s : State) (v : Rooted) → Stands p s v → IfLeft v.rendering.at (v.rendering.cut.updates ≤ v.updates)
lies_behind p s v h = go s.progress h.progress
  where
    left : (at : At) (n m : ℕ) → n ≤ m → IfLeft at (n ≤ m)
    left (Begins id) n m le = le
    left (Completes id) n m le = le
    left Over n m le = tt

    over : (at : At) (n m : ℕ) → at ≡ Over → IfLeft at (n ≤ m)
    over at n m is = subst (λ a. IfLeft a (n ≤ m)) (sym is) tt

    go : (x : Option Progress) → HasProgress p s x v → IfLeft v.rendering.at (v.rendering.cut.updates ≤ v.updates)
    go None idle = over v.rendering.at v.rendering.cut.updates v.updates idle.over
    go (Some g) on =
        let cut = ap (λ k. k.updates) on.renders.cut in
        let past = on.renders.past.updates in
        let updates = h.updates in
        left v.rendering.at v.rendering.cut.updates v.updates (omega (arith, cut, past, updates))

-- the number of a mounted instance was given before the next one
pub number_below : (p : Program) → IsBounded p → (s : State) → IsReached p s → (k : ℕ) (m : Mounted) → slice_get (mounted s.tree) k ≡ Some m → m.number < s.numbers.instance
number_below p bounded s reached k m at =
    let carried = reached_carries p bounded.shallow bounded.declared s reached in mounted_below s.numbers.instance s.tree k m carried.2.sound.own_numbers at

-- ---- after it

-- the root after an update that links nothing
plain_root : (v : Rooted) (rd : Rendering) (lanes : Option Lanes) (lane l : Lane) (sc : Schedule) (ev : Event) → lanes ≡ None → lane ≡ l → v.schedule ≡ sc → v.event ≡ ev
    → root_accepted lanes lane (record v { rendering = rd })
    ≡ record v { rendering = rd; schedule = after_update sc l v.now; updates = v.updates + 1; event = ev; later = union v.later (one l) }
plain_root v rd lanes lane l sc ev none is schedule event =
    ap (λ (x : Option Lanes). root_accepted x lane (record v { rendering = rd })) none
    ∙ (λ i. record v { rendering = rd; schedule = after_update (schedule i) (is i) v.now; updates = v.updates + 1; event = event i; later = union v.later (one (is i)) })

-- the root after a transition
transition_root : (v : Rooted) (rd : Rendering) (lanes : Option Lanes) (ls : Lanes) (lane l : Lane) (sc : Schedule) (ev : Event) → lanes ≡ Some ls → lane ≡ l → v.schedule ≡ sc
    → v.event ≡ ev
    → root_accepted lanes lane (record v { rendering = rd; schedule = claimed_by word.Transition v.event v.schedule })
    ≡ record v { rendering = rd; schedule = after_update (linked_lanes_of (if is_none ev.lane then claimed sc else sc) ls) l v.now; updates = v.updates + 1; event = record ev { lane = Some l }; later = union v.later (one l) }
transition_root v rd lanes ls lane l sc ev some is schedule event =
    ap (λ (x : Option Lanes). root_accepted x lane (record v { rendering = rd; schedule = claimed_by word.Transition v.event v.schedule })) some
    ∙ (λ i. record v { rendering = rd; schedule = after_update (linked_lanes_of (if is_none (event i).lane then claimed (schedule i) else schedule i) ls) (is i) v.now; updates = v.updates + 1; event = record (event i) { lane = Some (is i) }; later = union v.later (one (is i)) })

module _ (p : Program) (s : State) (v : Rooted) (t : Target) (o : Op) (rd : Rendering) (kept : List Kept) (lanes : Option Lanes) (lane : Lane) (new : Rooted) (h : Stands p s v)
    (same : rd ≡ with_hooks v.rendering rd.hooks) where
  -- an update that links nothing
  plain : (l : Lane) → lane ≡ l → lanes ≡ None → KeepsAllHooks p (accepted s (next_update s.journal t o l)) (kept_hooks rd.hooks)
      → ((g : Progress) → Renders p s g v.rendering → Renders p (accepted s (next_update s.journal t o l)) g rd)
      → LinksBelow (accepted s (next_update s.journal t o l)) → IsReached p (accepted s (next_update s.journal t o l))
      → KeepsResources p (accepted s (next_update s.journal t o l)).journal s.linked kept → AreDeclared p (accepted s (next_update s.journal t o l)).journal
      → new ≡ root_accepted lanes lane (record v { rendering = rd; resources = kept }) → Stands p (accepted s (next_update s.journal t o l)) new
  plain l lane_is none keeps goes below reached res declared is =
      subst (λ (r : Rooted). Stands p (accepted s (next_update s.journal t o l)) r)
      (sym (is ∙ plain_root (record v { resources = kept }) rd lanes lane l s.schedule s.event none lane_is h.schedule h.event))
      (stands_after p s s.schedule s.linked s.event (next_update s.journal t o l) v rd kept same refl goes keeps below reached res declared h)

  -- a transition
  transition : lane ≡ lane_of s word.Transition → lanes ≡ Some (links_with lane v.schedule.pending (linked_lanes s.linked t))
      → KeepsAllHooks p (dispatched_for s word.Transition t o) (kept_hooks rd.hooks)
      → ((g : Progress) → Renders p s g v.rendering → Renders p (dispatched_for s word.Transition t o) g rd) → LinksBelow (dispatched_for s word.Transition t o)
      → IsReached p (dispatched_for s word.Transition t o)
      → KeepsResources p (dispatched_for s word.Transition t o).journal (dispatched_for s word.Transition t o).linked kept → AreDeclared p (dispatched_for s word.Transition t o).journal
      → new ≡ root_accepted lanes lane (record v { rendering = rd; resources = kept; schedule = claimed_by word.Transition v.event v.schedule })
      → Stands p (dispatched_for s word.Transition t o) new
  transition lane_is some keeps goes below reached res declared is =
      let l = lane_of s word.Transition in
      let ls : Lanes = links_with l s.schedule.pending (linked_lanes s.linked t) in
      let linked_is : lanes ≡ Some ls = some ∙ (λ j. Some (links_with (lane_is j) (h.schedule j).pending (linked_lanes s.linked t))) in
      subst (λ (r : Rooted). Stands p (dispatched_for s word.Transition t o) r)
      (sym (is ∙ transition_root (record v { resources = kept }) rd lanes ls lane l s.schedule s.event linked_is lane_is h.schedule h.event))
      (stands_after p s (linked_lanes_of (claimed_if_first s) ls) (with_linked s.linked t ls) (record s.event { lane = Some l }) (next_update s.journal t o l) v rd kept same refl
      goes keeps below reached res declared h)

  -- the root stands for the state after the dispatch
  pub sent_stands : (w : LaneWord) (u : Update) → lane ≡ lane_of s w → u.lane ≡ lane → lanes ≡ lanes_linked w u v.schedule.pending (linked_lanes s.linked t)
      → KeepsAllHooks p (dispatched_for s w t o) (kept_hooks rd.hooks)
      → ((g : Progress) → Renders p s g v.rendering → Renders p (dispatched_for s w t o) g rd) → LinksBelow (dispatched_for s w t o)
      → IsReached p (dispatched_for s w t o)
      → KeepsResources p (dispatched_for s w t o).journal (dispatched_for s w t o).linked kept → AreDeclared p (dispatched_for s w t o).journal
      → new ≡ root_accepted lanes lane (record v { rendering = rd; resources = kept; schedule = claimed_by w v.event v.schedule })
      → Stands p (dispatched_for s w t o) new
  sent_stands word.Sync u lane_is has lanes_are keeps goes below reached res declared is = plain (lane_of s word.Sync) lane_is lanes_are keeps goes below reached res declared is
  sent_stands word.Input u lane_is has lanes_are keeps goes below reached res declared is = plain (lane_of s word.Input) lane_is lanes_are keeps goes below reached res declared is
  sent_stands word.Default u lane_is has lanes_are keeps goes below reached res declared is = plain (lane_of s word.Default) lane_is lanes_are keeps goes below reached res declared is
  sent_stands word.Transition u lane_is has lanes_are keeps goes below reached res declared is =
      transition lane_is (lanes_are ∙ ap (λ (l : Lane). Some (links_with l v.schedule.pending (linked_lanes s.linked t))) has) keeps goes below reached res declared is

-- a render in progress goes on after a refresh, which lies behind its cut
pub refresh_goes : (p : Program) (s : State) (w : LaneWord) (r : ℕ) (g : Progress) (v : Rendering) → Renders p s g v → Renders p (dispatched_for s w (resource r) Refresh) g v
refresh_goes p s w r g v on =
    renders_later p s (dispatched_for s w (resource r) Refresh) g v v.hooks on (dispatch_later g s w (resource r) Refresh on.past.updates)
    (keeps_refreshed p s w r Refresh (kept_hooks v.hooks) on.keeps)

-- ---- if memory runs out

unsent_progress : (p : Program) (s : State) (v : Rooted) (rd : Rendering) → rd ≡ with_hooks v.rendering rd.hooks → ((g : Progress) → Renders p s g v.rendering → Renders p s g rd)
    → (x : Option Progress) → HasProgress p s x v → HasProgress p s x (record v { rendering = rd })
unsent_progress p s v rd same goes None h =
    record { over = ap (λ (r : Rendering). r.at) same ∙ h.over; empty = ap (λ (r : Rendering). r.trees.draft) same ∙ h.empty }
unsent_progress p s v rd same goes (Some g) h =
    record {
      renders = goes g h.renders;
      units = ap (λ (r : Rendering). r.units) same ∙ h.units;
      bodies = ap (λ (r : Rendering). r.bodies) same ∙ h.bodies;
      left = subst (λ at. IfLeft at ⊥ → ⊥) (sym (ap (λ (r : Rendering). r.at) same)) h.left;
      lanes_are_set = h.lanes_are_set;
      later = h.later;
    }

-- hooks that stand for the same leave all else
pub reserved_stands : (p : Program) (s : State) (v : Rooted) (rd : Rendering) (new : Rooted) → Stands p s v → rd ≡ with_hooks v.rendering rd.hooks
    → KeepsAllHooks p s (kept_hooks rd.hooks) → ((g : Progress) → Renders p s g v.rendering → Renders p s g rd) → new ≡ record v { rendering = rd }
    → Stands p s new
reserved_stands p s v rd new h same keeps goes is =
    subst (λ (r : Rooted). Stands p s r) (sym is)
    (record {
      reached = h.reached;
      program = ap (λ (r : Rendering). r.program) same ∙ h.program;
      current = subst (λ (r : Rendering). IsTreeOf s.tree r.trees.current) (sym same) h.current;
      seen = ap (λ (r : Rendering). r.seen) same ∙ h.seen;
      numbered = subst (λ (r : Rendering). IsAllNumbered r.trees) (sym same) h.numbered;
      keeps = keeps;
      below = h.below;
      shows = h.shows;
      schedule = h.schedule;
      commits = h.commits;
      updates = h.updates;
      resolutions = h.resolutions;
      resources = h.resources;
      now = h.now;
      event = h.event;
      numbers = h.numbers;
      declared = h.declared;
      progress = unsent_progress p s v rd same goes s.progress h.progress;
    })

-- so do the hooks that were kept
pub unsent_stands : (p : Program) (s : State) (v : Rooted) (rd : Rendering) (new : Rooted) → Stands p s v → rd ≡ with_hooks v.rendering rd.hooks
    → ((n : ℕ) → kept_hooks rd.hooks n ≡ kept_hooks v.rendering.hooks n) → ((g : Progress) → Renders p s g v.rendering → Renders p s g rd) → new ≡ record v { rendering = rd }
    → Stands p s new
unsent_stands p s v rd new h same kept goes is =
    reserved_stands p s v rd new h same (all_stay s s refl refl p (kept_hooks v.rendering.hooks) (kept_hooks rd.hooks) refl kept h.keeps) goes is

-- so does a root whose hooks have more room
pub room_stands : (p : Program) (s : State) (v : Rooted) (inside rd : Rendering) (new : Rooted) → Stands p s v → inside ≡ v.rendering → rd ≡ with_hooks inside rd.hooks
    → ((q : Program) (t : State) → KeepsAllHooks q t (kept_hooks inside.hooks) → KeepsAllHooks q t (kept_hooks rd.hooks))
    → ((q : Program) (t : State) (g : Progress) → Renders q t g inside → Renders q t g rd)
    → new ≡ record v { rendering = rd } → Stands p s new
room_stands p s v inside rd new h here same states renders is =
    reserved_stands p s v rd new h (same ∙ ap (λ (r : Rendering). with_hooks r rd.hooks) here)
    (states p s (subst (λ (r : Rendering). KeepsAllHooks p s (kept_hooks r.hooks)) (sym here) h.keeps))
    (λ g on. renders p s g (subst (λ (r : Rendering). Renders p s g r) (sym here) on))
    is

-- ---- what sending promises

-- once an update is sent to the hook that a dispatch is for
pub sends : (p : Program) (s : State) (d : Dispatch) (to : Sent) (w new : Rooted) (x y : LaneWord) (o q : Op) → x ≡ y → o ≡ q → Stands p s w → IsFor p s d to
    → IsReached p (dispatched_for s y (hook to.instance to.place) q)
    → ((t : State) (k : ℕ) (m : Mounted) → Stands w.rendering.program t w → slice_get (mounted t.tree) k ≡ Some m → m.number ≡ to.instance
    → IsReached w.rendering.program (dispatched_for t x (hook to.instance to.place) o) → Stands w.rendering.program (dispatched_for t x (hook to.instance to.place) o) new)
    → Stands p (dispatched_for s y (hook to.instance to.place) q) new
sends p s d to w new x y o q same-word same-op h is reached ok =
    let goes : IsReached p (dispatched_for s x (hook to.instance to.place) o) → Stands p (dispatched_for s x (hook to.instance to.place) o) new =
    subst (λ (z : Program). (t : State) (k : ℕ) (m : Mounted) → Stands z t w → slice_get (mounted t.tree) k ≡ Some m → m.number ≡ to.instance
    → IsReached z (dispatched_for t x (hook to.instance to.place) o) → Stands z (dispatched_for t x (hook to.instance to.place) o) new) h.program
    ok s is.place_in_tree is.instance h is.there (sym is.number) in
    subst (λ (z : LaneWord). IsReached p (dispatched_for s z (hook to.instance to.place) q) → Stands p (dispatched_for s z (hook to.instance to.place) q) new) same-word
    (subst (λ (z : Op). IsReached p (dispatched_for s x (hook to.instance to.place) z) → Stands p (dispatched_for s x (hook to.instance to.place) z) new) same-op goes)
    reached
