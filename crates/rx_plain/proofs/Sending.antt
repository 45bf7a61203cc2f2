-- What the plain machine stands for after a dispatch.
use Rattle.rx_sched.specs.declared.event.Event.{Event}
use Rattle.std.proofs.Common.{◌≡◌, ℕ, pos, cond, ◌+◌, ◌<◌, ◌≤◌, Bool, true, false, length, refl, sym, ap, ◌∙◌, subst, arith, Option, Some, None, List}
use Rattle.std.specs.Prelude.{bytes_eq, is_none, is_some, option_map, position, slice_get, if◌then◌else◌}
use Rattle.std.specs.Option.{IsSomeAnd}
use Rattle.rx_lane.specs.declared.lane.Lane.{Lane}
use Rattle.rx_lane.specs.Lanes.{Lanes}
use Rattle.rx_ast.specs.Syntax.{Program}
use Rattle.rx_rules.specs.Names.{has_name, resource_number, resources}
use Rattle.rx_check.specs.Accepted.{IsAccepted}
use Rattle.rx_elem.specs.Spots.{Mounted, mounted}
use Rattle.rx_elem.specs.Trees.{Node}
use Rattle.rx_hooks.specs.declared.hook.Hook.{Hook}
use Rattle.rx_hooks.specs.Hooks.{links_with}
use Rattle.rx_queue.specs.declared.update.Op.{Op}
use Rattle.rx_queue.specs.declared.update.Op.TheVariants as op
use Rattle.rx_queue.specs.declared.update.Update.{Update}
use Rattle.rx_queue.specs.Journal.{Target, hook, resource}
use Rattle.rx_elem.specs.Numbers.{Numbers}
use Rattle.rx_lines.specs.Lines.{Written, no_instance, with_line}
use Rattle.rx_sched.specs.Events.{no_event}
use Rattle.rx_sched.specs.Schedule.{Schedule, after_update, claimed, linked as linked_lanes_of}
use Rattle.rx_step.specs.declared.step.Dispatch.{Dispatch}
use Rattle.rx_step.specs.declared.step.Dispatch.TheVariants as dispatch
use Rattle.rx_step.specs.declared.step.LaneWord.{LaneWord}
use Rattle.rx_step.specs.declared.step.LaneWord.TheVariants as word
use Rattle.rx_step.specs.declared.step.Step.TheVariants as step
use Rattle.rx_step.specs.Steps.{hook_name, path_of, word_of}
use Rattle.rx_model.specs.State.{State, hook_number, hooks_at, instance_found, linked_lanes}
use Rattle.rx_model.specs.Stretch.{Stretch, silent}
use Rattle.rx_model.specs.Accepting.{accepted, claimed_if_first, dispatched_for, dispatched_to, enqueued, event_of, goes_on, lane_of, next_update, op_of, refreshed, sent, sent_to, target_of, unset_by, with_linked, within}
use Rattle.rx_model.specs.HooksOf.{KeepsAllHooks}
use Rattle.rx_model.specs.Laws.{IsBounded, IsReached}
use Rattle.rx_model.proofs.Reached.{begins-reach, sends-reach}
use Rattle.run_laws.proofs.AlongRuns.{reached_carries}
use Rattle.run_laws.proofs.RunTrees.{reached_tree}
use Rattle.rx_hook_store.specs.Store as hooks
use Rattle.rx_hook_store.specs.Store.{kept_hooks}
use Rattle.rx_hook_store.specs.Changing.{lanes_linked}
use Rattle.rx_hook_store.specs.Commits.{LinksBelow}
use Rattle.rx_hook_store.proofs.Numbered.{mounted_below}
use Rattle.rx_hook_store.proofs.Dispatching.{tree_dispatched}
use Rattle.rx_hook_store.proofs.Staying.{hook_is}
use Rattle.rx_hook_store.proofs.Stores.{each-keeps}
use Rattle.rx_dispatch.specs.Kinds.{is_refresh, is_start}
use Rattle.rx_resources.specs.Kept.{Kept}
use Rattle.rx_plain.specs.Plained.{Plained}
use Rattle.rx_plain.specs.Doing.{HasDone}
use Rattle.rx_plain.specs.Stands.{HasRoomFor, StandsFor}
use Rattle.rx_kept.specs.Keeping.{AreDeclared, KeepsResources}
use Rattle.rx_plain.specs.Taking.{accepted_by, with_later}
use Rattle.rx_kept.specs.Taking.{CanTake, claimed_by}
use Rattle.rx_writing.proofs.Behind.{with_lines-nil, with_lines-one}
use Rattle.rx_kept.proofs.HookCounts.{mounted_hooks}
use Rattle.rx_kept.proofs.Paths.{dispatch_hook, found_hook, found_there}
use Rattle.rx_plain.proofs.Standing.{stands_after, stands_as}

-- ---- where a dispatch goes

-- the instance that was found is mounted
pub is_there : (p : Program) (s : State) (d : Dispatch) (m : Mounted) → instance_found p s.tree (path_of d) ≡ Some m → (k : ℕ) × (slice_get (mounted s.tree) k ≡ Some m)
is_there p s d m here = found_there p (mounted s.tree) (path_of d) m here

-- and it has the hook that the dispatch is for
pub has_place : (p : Program) (s : State) (d : Dispatch) (m : Mounted) (place : ℕ) → IsAccepted p → IsReached p s → CanTake p (step.Dispatch d) → instance_found p s.tree (path_of d) ≡ Some m
    → (has_name (hooks_at p m.component) (hook_name d) ≡ true → place < length (hooks_at p m.component)) → place < length m.initials
has_place p s d m place accepted reached can here below =
    let named = dispatch_hook p d can (λ none. let f : None ≡ Some m = sym (ap (instance_found p s.tree) none) ∙ here in cc) in
    let has = found_hook p accepted (mounted s.tree) (mounted_hooks p s.tree (reached_tree p s reached)) (path_of d) (hook_name d) named.0 named.1 m here in
    omega (arith, below has.named, has.each)

-- the hook that a dispatch is for is kept
pub hook_kept : (p : Program) (s : State) (v : Plained) (k : ℕ) (m : Mounted) (place : ℕ) → StandsFor p s v → slice_get (mounted s.tree) k ≡ Some m → place < length m.initials
    → IsSomeAnd (kept_hooks v.hooks m.number) (λ (hooks : List Hook). place < length hooks)
hook_kept p s v k m place h at below = hook_is p s (kept_hooks v.hooks) m.number place m.initials below (each-keeps p s (kept_hooks v.hooks) h.keeps k m at)

-- the number of a mounted instance was given before the next one
pub number_below : (p : Program) → IsBounded p → (s : State) → IsReached p s → (k : ℕ) (m : Mounted) → slice_get (mounted s.tree) k ≡ Some m → m.number < s.numbers.instance
number_below p bounded s reached k m at =
    let carried = reached_carries p bounded.shallow bounded.declared s reached in mounted_below s.numbers.instance s.tree k m carried.2.sound.own_numbers at

-- ---- after it

-- the machine after an update that links nothing
unlinked_plain : (v : Plained) (store : hooks.Kept) (kept : List Kept) (lanes : Option Lanes) (lane l : Lane) (sc : Schedule) (ev : Event) → lanes ≡ None → lane ≡ l → v.schedule ≡ sc → v.event ≡ ev
    → accepted_by lanes lane (record v { hooks = store; resources = kept })
    ≡ record v { hooks = store; resources = kept; schedule = after_update sc l v.now; updates = v.updates + 1; event = ev; going = option_map (with_later l) v.going }
unlinked_plain v store kept lanes lane l sc ev none is schedule event =
    ap (λ (x : Option Lanes). accepted_by x lane (record v { hooks = store; resources = kept })) none
    ∙ (λ i. record v { hooks = store; resources = kept; schedule = after_update (schedule i) (is i) v.now; updates = v.updates + 1; event = event i; going = option_map (with_later (is i)) v.going })

-- the machine after a transition
linked_plain : (v : Plained) (store : hooks.Kept) (kept : List Kept) (lanes : Option Lanes) (ls : Lanes) (lane l : Lane) (sc : Schedule) (ev : Event) → lanes ≡ Some ls → lane ≡ l → v.schedule ≡ sc
    → v.event ≡ ev
    → accepted_by lanes lane (record v { hooks = store; resources = kept; schedule = claimed_by word.Transition v.event v.schedule })
    ≡ record v { hooks = store; resources = kept; schedule = after_update (linked_lanes_of (if is_none ev.lane then claimed sc else sc) ls) l v.now; updates = v.updates + 1; event = record ev { lane = Some l }; going = option_map (with_later l) v.going }
linked_plain v store kept lanes ls lane l sc ev some is schedule event =
    ap (λ (x : Option Lanes). accepted_by x lane (record v { hooks = store; resources = kept; schedule = claimed_by word.Transition v.event v.schedule })) some
    ∙ (λ i. record v { hooks = store; resources = kept; schedule = after_update (linked_lanes_of (if is_none (event i).lane then claimed (schedule i) else schedule i) ls) (is i) v.now; updates = v.updates + 1; event = record (event i) { lane = Some (is i) }; going = option_map (with_later (is i)) v.going })

module _ (p : Program) (s : State) (v : Plained) (t : Target) (o : Op) (store : hooks.Kept) (kept : List Kept) (lanes : Option Lanes) (lane : Lane) (new : Plained) (h : StandsFor p s v) where
  -- an update that links nothing
  plain : (l : Lane) → lane ≡ l → lanes ≡ None → KeepsAllHooks p (accepted s (next_update s.journal t o l)) (kept_hooks store)
      → LinksBelow (accepted s (next_update s.journal t o l)) → IsReached p (accepted s (next_update s.journal t o l))
      → KeepsResources p (accepted s (next_update s.journal t o l)).journal s.linked kept → AreDeclared p (accepted s (next_update s.journal t o l)).journal
      → new ≡ accepted_by lanes lane (record v { hooks = store; resources = kept }) → StandsFor p (accepted s (next_update s.journal t o l)) new
  plain l lane_is none keeps below reached res declared is =
      subst (λ (r : Plained). StandsFor p (accepted s (next_update s.journal t o l)) r)
      (sym (is ∙ unlinked_plain v store kept lanes lane l s.schedule s.event none lane_is h.schedule h.event))
      (stands_after p s s.schedule s.linked s.event (next_update s.journal t o l) v store kept refl refl keeps below reached res declared h)

  -- a transition
  transition : lane ≡ lane_of s word.Transition → lanes ≡ Some (links_with lane v.schedule.pending (linked_lanes s.linked t))
      → KeepsAllHooks p (dispatched_for s word.Transition t o) (kept_hooks store) → LinksBelow (dispatched_for s word.Transition t o)
      → IsReached p (dispatched_for s word.Transition t o)
      → KeepsResources p (dispatched_for s word.Transition t o).journal (dispatched_for s word.Transition t o).linked kept → AreDeclared p (dispatched_for s word.Transition t o).journal
      → new ≡ accepted_by lanes lane (record v { hooks = store; resources = kept; schedule = claimed_by word.Transition v.event v.schedule })
      → StandsFor p (dispatched_for s word.Transition t o) new
  transition lane_is some keeps below reached res declared is =
      let l = lane_of s word.Transition in
      let ls : Lanes = links_with l s.schedule.pending (linked_lanes s.linked t) in
      let linked_is : lanes ≡ Some ls = some ∙ (λ j. Some (links_with (lane_is j) (h.schedule j).pending (linked_lanes s.linked t))) in
      subst (λ (r : Plained). StandsFor p (dispatched_for s word.Transition t o) r)
      (sym (is ∙ linked_plain v store kept lanes ls lane l s.schedule s.event linked_is lane_is h.schedule h.event))
      (stands_after p s (linked_lanes_of (claimed_if_first s) ls) (with_linked s.linked t ls) (record s.event { lane = Some l }) (next_update s.journal t o l) v store kept refl refl
      keeps below reached res declared h)

  -- the machine stands for the state after the dispatch
  pub sent_stands : (w : LaneWord) (u : Update) → lane ≡ lane_of s w → u.lane ≡ lane → lanes ≡ lanes_linked w u v.schedule.pending (linked_lanes s.linked t)
      → KeepsAllHooks p (dispatched_for s w t o) (kept_hooks store) → LinksBelow (dispatched_for s w t o)
      → IsReached p (dispatched_for s w t o)
      → KeepsResources p (dispatched_for s w t o).journal (dispatched_for s w t o).linked kept → AreDeclared p (dispatched_for s w t o).journal
      → new ≡ accepted_by lanes lane (record v { hooks = store; resources = kept; schedule = claimed_by w v.event v.schedule })
      → StandsFor p (dispatched_for s w t o) new
  sent_stands word.Sync u lane_is has lanes_are keeps below reached res declared is = plain (lane_of s word.Sync) lane_is lanes_are keeps below reached res declared is
  sent_stands word.Input u lane_is has lanes_are keeps below reached res declared is = plain (lane_of s word.Input) lane_is lanes_are keeps below reached res declared is
  sent_stands word.Default u lane_is has lanes_are keeps below reached res declared is = plain (lane_of s word.Default) lane_is lanes_are keeps below reached res declared is
  sent_stands word.Transition u lane_is has lanes_are keeps below reached res declared is =
      transition lane_is (lanes_are ∙ ap (λ (l : Lane). Some (links_with l v.schedule.pending (linked_lanes s.linked t))) has) keeps below reached res declared is

-- ---- what a dispatch sends

-- a start sends two updates
pub start_unsets : (d : Dispatch) (t : Target) (s : State) → is_start d ≡ true → dispatched_for s word.Transition t (op.Set (pos 0)) ≡ unset_by d t s
start_unsets (dispatch.Set w path name x) t s e = absurd (cc e)
start_unsets (dispatch.Call w path name f x) t s e = absurd (cc e)
start_unsets (dispatch.Send w path name x) t s e = absurd (cc e)
start_unsets (dispatch.Start w path name) t s e = refl
start_unsets (dispatch.Refresh w name) t s e = absurd (cc e)

-- what is no start sends one
pub other_unsets : (d : Dispatch) (t : Target) (s : State) → is_start d ≡ false → s ≡ unset_by d t s
other_unsets (dispatch.Set w path name x) t s e = refl
other_unsets (dispatch.Call w path name f x) t s e = refl
other_unsets (dispatch.Send w path name x) t s e = refl
other_unsets (dispatch.Start w path name) t s e = absurd (cc e)
other_unsets (dispatch.Refresh w name) t s e = refl

-- the state after what is sent first
abbrev pub state_sent : Program → State → Dispatch → Mounted → State
state_sent p s d m = dispatched_for s (word_of d) (target_of p d m) (op_of p m.component d)

-- it can be reached
pub sent_reached : (p : Program) (s : State) (d : Dispatch) (m : Mounted) → IsReached p s → instance_found p s.tree (path_of d) ≡ Some m → IsReached p (state_sent p s d m)
sent_reached p s d m reached here = sends-reach p s (word_of d) (path_of d) m (hook_number p m.component (hook_name d)) (op_of p m.component d) here reached

-- it has the same tree
pub sent_tree : (p : Program) (s : State) (d : Dispatch) (m : Mounted) → (state_sent p s d m).tree ≡ s.tree
sent_tree p s d m = tree_dispatched s (word_of d) (target_of p d m) (op_of p m.component d)

-- and so can the state after what a start sends next
pub unset_reached : (p : Program) (s : State) (d : Dispatch) (m : Mounted) → IsReached p s → instance_found p s.tree (path_of d) ≡ Some m
    → IsReached p (dispatched_for (state_sent p s d m) word.Transition (target_of p d m) (op.Set (pos 0)))
unset_reached p s d m reached here =
    sends-reach p (state_sent p s d m) word.Transition (path_of d) m (hook_number p m.component (hook_name d)) (op.Set (pos 0))
    (ap (λ (x : Option Node). instance_found p x (path_of d)) (sent_tree p s d m) ∙ here) (sent_reached p s d m reached here)

-- ---- events of dispatches

goes_on_reached : (p : Program) (s : State) (w : LaneWord) → IsReached p s → IsReached p (record s { event = goes_on w s.event })
goes_on_reached p s w reached = by_word w
  where
    by_start : (b : Bool) → IsReached p (record s { event = cond b no_event s.event })
    by_start true = begins-reach p s false reached
    by_start false = reached

    by_word : (w : LaneWord) → IsReached p (record s { event = goes_on w s.event })
    by_word word.Sync = by_start s.event.started
    by_word word.Input = by_start s.event.started
    by_word word.Default = by_start s.event.started
    by_word word.Transition = reached

within_reached : (p : Program) (s : State) (d : Dispatch) → IsReached p s → IsReached p (within d s)
within_reached p s (dispatch.Set w path name x) reached = goes_on_reached p s w reached
within_reached p s (dispatch.Call w path name f x) reached = goes_on_reached p s w reached
within_reached p s (dispatch.Send w path name x) reached = goes_on_reached p s w reached
within_reached p s (dispatch.Start w path name) reached = begins-reach p s true reached
within_reached p s (dispatch.Refresh w name) reached = goes_on_reached p s w reached

-- the machine in the event of a dispatch
pub within_stands : (p : Program) (s : State) (d : Dispatch) (v new : Plained) → StandsFor p s v → new ≡ record v { event = event_of d v.event } → StandsFor p (within d s) new
within_stands p s d v new h is =
    stands_as p s s.progress s.now (event_of d s.event) s.passive v new v.now (event_of d v.event) v.passive h.now (ap (event_of d) h.event) h.passive is (within_reached p s d h.reached) h

-- ---- refreshes

-- a dispatch that is no refresh is sent to a hook
pub hook_sent : (p : Program) (s : State) (d : Dispatch) → is_refresh d ≡ false → sent p s d ≡ enqueued p s d
hook_sent p s (dispatch.Set w path name x) e = refl
hook_sent p s (dispatch.Call w path name f x) e = refl
hook_sent p s (dispatch.Send w path name x) e = refl
hook_sent p s (dispatch.Start w path name) e = refl
hook_sent p s (dispatch.Refresh w name) e = absurd (cc e)

-- one that is asks for another version of its resource
refresh_sent : (p : Program) (s : State) (d : Dispatch) → is_refresh d ≡ true → refreshed p s (word_of d) (hook_name d) ≡ enqueued p s d
refresh_sent p s (dispatch.Set w path name x) e = absurd (cc e)
refresh_sent p s (dispatch.Call w path name f x) e = absurd (cc e)
refresh_sent p s (dispatch.Send w path name x) e = absurd (cc e)
refresh_sent p s (dispatch.Start w path name) e = absurd (cc e)
refresh_sent p s (dispatch.Refresh w name) e = refl

-- the state after a refresh, by the resource that it is for
abbrev pub state_refreshed : State → LaneWord → (resource : ℕ) → State
state_refreshed s w r = dispatched_for s w (resource r) op.Refresh

pub refresh_step : (p : Program) (s : State) (d : Dispatch) (w : LaneWord) (r : ℕ) → is_refresh d ≡ true → w ≡ word_of d → r ≡ resource_number p (hook_name d) → silent (state_refreshed s w r) ≡ enqueued p s d
refresh_step p s d w r e is_word is_number = (λ i. silent (state_refreshed s (is_word i) (is_number i))) ∙ refresh_sent p s d e

-- a refresh that can be taken is one of a resource of the program
pub refresh_fits : (p : Program) (d : Dispatch) → is_refresh d ≡ true → CanTake p (step.Dispatch d) → is_some (position (bytes_eq (hook_name d)) (resources p)) ≡ true
refresh_fits p (dispatch.Set w path name x) e can = absurd (cc e)
refresh_fits p (dispatch.Call w path name f x) e can = absurd (cc e)
refresh_fits p (dispatch.Send w path name x) e can = absurd (cc e)
refresh_fits p (dispatch.Start w path name) e can = absurd (cc e)
refresh_fits p (dispatch.Refresh w name) e can = can.0

-- ---- what is sent

-- what is done for one state is done for an equal one
pub goes_along : (p : Program) (t u : State) (new : Plained) → t ≡ u → (IsReached p t → StandsFor p t new) → IsReached p u → StandsFor p u new
goes_along p t u new same goes reached = subst (λ (x : State). StandsFor p x new) same (goes (subst (λ (x : State). IsReached p x) (sym same) reached))

-- a dispatch to an instance that is there
pub sent_done : (p : Program) (s : State) (d : Dispatch) (m : Mounted) (v : Plained) (log : Written) → instance_found p s.tree (path_of d) ≡ Some m → StandsFor p (sent_to p s d m) v → HasDone p (sent p s d) v log log
sent_done p s d m v log here h =
    subst (λ (o : Option Mounted). HasDone p (dispatched_to p s d o) v log log) (sym here) (record { stands = h; written = sym (with_lines-nil log) })

-- one whose path leads to none
pub nowhere_done : (p : Program) (s : State) (d : Dispatch) (v : Plained) (log new : Written) → instance_found p s.tree (path_of d) ≡ None → StandsFor p s v → new ≡ with_line log (no_instance (path_of d))
    → HasDone p (sent p s d) v log new
nowhere_done p s d v log new none h are =
    subst (λ (o : Option Mounted). HasDone p (dispatched_to p s d o) v log new) (sym none) (record { stands = h; written = are ∙ sym (with_lines-one log (no_instance (path_of d))) })

-- what an accepted update changes of the machine
pub accepted_rest : (lanes : Option Lanes) (lane : Lane) (v new : Plained) → new ≡ accepted_by lanes lane v
    → new ≡ record v { schedule = new.schedule; updates = v.updates + 1; event = new.event; going = new.going }
accepted_rest None lane v new is = is ∙ (λ i. record v { schedule = (sym is i).schedule; updates = v.updates + 1; event = (sym is i).event; going = (sym is i).going })
accepted_rest (Some ls) lane v new is = is ∙ (λ i. record v { schedule = (sym is i).schedule; updates = v.updates + 1; event = (sym is i).event; going = (sym is i).going })

-- room for a step more is room for two updates
pub room_left : (v w : Plained) (n : ℕ) → n ≤ 2 → w.updates ≡ v.updates + n → w.resolutions ≡ v.resolutions → w.commits ≡ v.commits → w.numbers ≡ v.numbers → (k : ℕ) → HasRoomFor (k + 1) v → HasRoomFor k w
room_left v w n few updates resolutions commits numbers k h =
    let instances : w.numbers.instance ≡ v.numbers.instance = ap (λ (m : Numbers). m.instance) numbers in
    let hosts : w.numbers.host ≡ v.numbers.host = ap (λ (m : Numbers). m.host) numbers in
    record {
      updates = omega (arith, updates, few, h.updates);
      resolutions = omega (arith, resolutions, h.resolutions);
      commits = omega (arith, commits, h.commits);
      instances = omega (arith, instances, h.instances);
      hosts = omega (arith, hosts, h.hosts);
    }

-- a refresh writes no line
pub refreshed_done : (p : Program) (s : State) (d : Dispatch) (v : Plained) (log : Written) → is_refresh d ≡ true → StandsFor p (enqueued p s d).after v → HasDone p (enqueued p s d) v log log
refreshed_done p s d v log e h =
    let same : refreshed p s (word_of d) (hook_name d) ≡ enqueued p s d = refresh_sent p s d e in
    subst (λ (r : Stretch). HasDone p r v log log) same (record { stands = subst (λ (r : Stretch). StandsFor p r.after v) (sym same) h; written = sym (with_lines-nil log) })

-- what a call promises that sends an update with this operation to a hook
abbrev pub Sends : LaneWord → (instance place : ℕ) → Op → (v new : Plained) → Type 0
Sends w i place o v new =
    (p : Program) (s : State) (k : ℕ) (m : Mounted) → IsBounded p → StandsFor p s v → slice_get (mounted s.tree) k ≡ Some m → m.number ≡ i
    → IsReached p (dispatched_for s w (hook i place) o) → StandsFor p (dispatched_for s w (hook i place) o) new

module _ (p : Program) (bounded : IsBounded p) (s : State) (d : Dispatch) (m : Mounted) (reached : IsReached p s) (here : instance_found p s.tree (path_of d) ≡ Some m) (i place : ℕ) (number : i ≡ m.number)
    (hook_is : place ≡ hook_number p m.component (hook_name d)) where
  -- the first update of a dispatch is sent
  pub first_stands : (w : LaneWord) (o : Op) (v new : Plained) → StandsFor p s v → w ≡ word_of d → o ≡ op_of p m.component d → Sends w i place o v new → StandsFor p (state_sent p s d m) new
  first_stands w o v new h is_word is_op sends =
      let there = is_there p s d m here in
      goes_along p (dispatched_for s w (hook i place) o) (state_sent p s d m) new (λ j. dispatched_for s (is_word j) (hook (number j) (hook_is j)) (is_op j))
      (λ goes. sends p s there.0 m bounded h there.1 (sym number) goes) (sent_reached p s d m reached here)

  -- the instance is there still
  pub still_there : (k : ℕ) × (slice_get (mounted (state_sent p s d m).tree) k ≡ Some m)
  still_there =
      let there = is_there p s d m here in (there.0, ap (λ (x : Option Node). slice_get (mounted x) there.0) (sent_tree p s d m) ∙ there.1)

  -- and so is the second one of a start
  pub second_stands : (o : Op) (v new : Plained) → StandsFor p (state_sent p s d m) v → is_start d ≡ true → o ≡ op.Set (pos 0) → Sends word.Transition i place o v new → StandsFor p (sent_to p s d m) new
  second_stands o v new h start is_op sends =
      let t : State = state_sent p s d m in
      let unset = start_unsets d (target_of p d m) t start in
      goes_along p (dispatched_for t word.Transition (hook i place) o) (sent_to p s d m) new ((λ j. dispatched_for t word.Transition (hook (number j) (hook_is j)) (is_op j)) ∙ unset)
      (λ goes. sends p t still_there.0 m bounded h still_there.1 (sym number) goes) (subst (λ (x : State). IsReached p x) unset (unset_reached p s d m reached here))

  -- what is no start sends no other
  pub other_stands : (new : Plained) → StandsFor p (state_sent p s d m) new → is_start d ≡ false → StandsFor p (sent_to p s d m) new
  other_stands new h other = subst (λ (x : State). StandsFor p x new) (other_unsets d (target_of p d m) (state_sent p s d m) other) h
