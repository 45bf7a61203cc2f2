-- What is kept of all flags in a turn.
use Rattle.std.specs.Prelude.{◌≡◌, ◌⊎◌, ℕ, ◌≤◌, Bool, true, false, ◌&&◌, List, [], ◌∷◌, Option, Some, None, IfSome, map, option_map, if◌then◌else◌, refl}
use Rattle.std.specs.List.{AllByRecursion}
use Rattle.std.proofs.Common.{ap, inl, inr, subst, sym, ◌∙◌}
use Rattle.rx_base.specs.Awaits.{Awaits}
use Rattle.rx_base.specs.declared.cut.Cut.{Cut}
use Rattle.rx_lane.specs.declared.lane.Lane.{Lane}
use Rattle.rx_lane.specs.declared.lane.Lane.TheVariants as lane
use Rattle.rx_lane.specs.Lanes.{Lanes, has, lanes_where, minus, no_lanes, one, union}
use Rattle.rx_lane.specs.SetLaws.{has-lanes_where}
use Rattle.rx_ast.specs.Syntax.{Program}
use Rattle.rx_rules.specs.Bounds.{depth_bound}
use Rattle.rx_rules.specs.Reads.{ReadsDeclared}
use Rattle.rx_elem.specs.Numbers.{numbered}
use Rattle.rx_elem.specs.Spots.{Mounted, kept_instances, mounted, visible_instances}
use Rattle.rx_elem.specs.Trees.{Node}
use Rattle.rx_elem.proofs.Deciding.{both_hold}
use Rattle.rx_queue.specs.Journal.{Posted, Resolution, Target, has_later, hook, resolved_since, same_target, standing_after, version_of}
use Rattle.rx_queue.specs.Pairs.{Pair, in_versions}
use Rattle.rx_sched.specs.declared.choice.Choice.{Choice}
use Rattle.rx_sched.specs.declared.choice.Choice.TheVariants as choice
use Rattle.rx_sched.specs.Links.{links_among}
use Rattle.rx_sched.specs.Schedule.{after_deferral}
use Rattle.rx_meaning.specs.Fresh.{depth_limit, fresh, given, made}
use Rattle.rx_meaning.specs.Outcome.{Outcome, awaits_resolved, commit, defer, outcome, still_pending}
use Rattle.rx_meaning.specs.Settled.{TargetsBelow}
use Rattle.rx_lines.specs.Lines.{Counts}
use Rattle.rx_model.specs.Committing.{committed_state, ended, ended_by, passive_run, sight_of, starting}
use Rattle.rx_model.specs.State.{Progress, State, linked_lanes}
use Rattle.rx_model.specs.Stretch.{Stretch, followed_by, silent}
use Rattle.rx_model.specs.Turns.{AnyRender, Continues, GoesOn, TurnBy, choice_of, gone_on}
use Rattle.commit_laws.proofs.CalmLanes.{none_owed}
use Rattle.commit_laws.proofs.NoneLost.{NoneLost, commit_none_lost, union_left}
use Rattle.run_laws.proofs.AlongRuns.{commit_is, turn_keeps}
use Rattle.run_laws.proofs.Carrying.{start_renders}
use Rattle.run_laws.proofs.Walk.{same_after}
use Rattle.run_laws.specs.Carried.{Carries, IsCarried, RendersOn}
use Rattle.transition_laws.specs.Transitions.{is_gone}
use Rattle.transition_laws.specs.Flags.{flags_a_transition}
use Rattle.transition_laws.proofs.Journals.{counted_so, none_of}
use Rattle.transition_laws.proofs.Lists.{all_and, all_back, all_more}
use Rattle.transition_laws.proofs.Facts.{FlagFacts, Pends, no_transitions}
use Rattle.transition_laws.proofs.Marks.{lost_pends, mark}
use Rattle.transition_laws.proofs.Rendering.{discarded, gone_further, render_starts}
use Rattle.transition_laws.proofs.Committing.{committed_facts}
use Rattle.transition_laws.proofs.LinkSets.{linked_among, start_reaches}
use Rattle.transition_laws.proofs.Instances.{IsIn}
use Rattle.transition_laws.proofs.Staying.{Stands, gone_stays, instance_stood, mounted_here}
use Rattle.transition_laws.proofs.Keeping.{AllFacts, Base, FactsOf}

-- a state with a render in progress
abbrev pub with_render : State → Progress → State
with_render s g = record s { progress = Some g }

-- no update of an instance that has yet to come
each_below : (next : ℕ) (us : List Posted) → TargetsBelow next us → AllByRecursion (λ u. (k i : ℕ) → next ≤ i → same_target (hook i k) u.target ≡ false) us
each_below next [] h = tt
each_below next (u ∷ us) h = (h.0, each_below next us h.1)

-- all that is kept of a state, what is carried apart
abbrev pub Rest : Program → State → Type 0
Rest p s = Base p s × AllFacts p s

-- A commit

module _ (p : Program) (s : State) (g : Progress) (new : Node) (gives : fresh (sight_of p s g) s.tree ≡ made new) (known : List Resolution) (last : Cut)
    (c : Carries p s.journal s.numbers s.tree known last) (r : RendersOn p s.journal known last g.lanes g.cut) (b : Base p s) where
  -- the tree with its numbers, and the lanes that are pending then
  abbrev then_tree : Node
  then_tree = (numbered s.numbers new).1

  abbrev still : Lanes
  still = still_pending g.lanes g.cut s.journal then_tree

  abbrev then_pending : Lanes
  then_pending = union (minus s.schedule.pending g.lanes) still

  abbrev again : Lanes
  again = lanes_where (λ l. has g.lanes l && has_later g.cut s.journal l)

  comes : (l : Lane) → has g.lanes l ≡ true → has_later g.cut s.journal l ≡ true → has still l ≡ true
  comes l h k =
      union_left again (if awaits_resolved g.lanes g.cut s.journal then_tree then one lane.Retry else no_lanes) l
      (has-lanes_where (λ x. has g.lanes x && has_later g.cut s.journal x) l ∙ both_hold (has g.lanes l) (has_later g.cut s.journal l) h k)

  none_lost : NoneLost (Some then_tree) (map (mark g.lanes g.cut then_tree) s.journal.updates) then_pending
  none_lost = commit_none_lost (sight_of p s g) s.tree new s.numbers s.schedule.pending still gives r.accounted c.sound.targets comes b.lost

  committed_base : Base p (committed_state s g (numbered s.numbers new))
  committed_base =
      record {
        tree = given (sight_of p s g) s.tree new s.numbers refl b.tree gives;
        counted = counted_so (standing_after g.lanes g.cut (visible_instances (Some then_tree)) (kept_instances (Some then_tree))) 0 s.journal.updates b.counted;
        lost = none_lost;
        owed = none_owed (sight_of p s g) (visible_instances (Some then_tree)) (kept_instances (Some then_tree)) s.journal.updates r.accounted;
        next = b.next;
        unclaimed = b.unclaimed;
      }

  below : AllByRecursion (λ u. (k i : ℕ) → s.numbers.instance ≤ i → same_target (hook i k) u.target ≡ false) s.journal.updates
  below = each_below s.numbers.instance s.journal.updates c.sound.targets

  none_after : (flag : Target) (us : List Posted) → AllByRecursion (λ u. same_target flag u.target ≡ false) us
      → AllByRecursion (λ u. same_target flag u.target ≡ false) (map (mark g.lanes g.cut then_tree) us)
  none_after flag [] h = tt
  none_after flag (u ∷ us) h = (h.0, none_after flag us h.1)

  -- a flag of an instance that is new has no transitions
  new_flag : (flag : Target) → AllByRecursion (λ u. same_target flag u.target ≡ false) s.journal.updates → FactsOf (committed_state s g (numbered s.numbers new)) flag
  new_flag flag none =
      let nothing = none_of flag (map (mark g.lanes g.cut then_tree) s.journal.updates) (none_after flag s.journal.updates none) in
      no_transitions (Some then_tree) flag (linked_lanes s.linked flag) (links_among s.schedule.links then_pending) None s.event.lane s.schedule.next_transition
      (map (mark g.lanes g.cut then_tree) s.journal.updates) nothing.0 nothing.1

  each_known : AllByRecursion (λ u. (is_gone s.tree u.target ≡ true → is_gone (Some then_tree) u.target ≡ true) × Pends (Some then_tree) then_pending (mark g.lanes g.cut then_tree u)) s.journal.updates
  each_known =
      all_and (λ u. is_gone s.tree u.target ≡ true → is_gone (Some then_tree) u.target ≡ true) (λ u. Pends (Some then_tree) then_pending (mark g.lanes g.cut then_tree u)) s.journal.updates
      (all_more (λ u. (k i : ℕ) → s.numbers.instance ≤ i → same_target (hook i k) u.target ≡ false) (λ u. is_gone s.tree u.target ≡ true → is_gone (Some then_tree) u.target ≡ true)
      (λ u k. gone_stays (sight_of p s g) s.tree new s.numbers b.tree gives u.target k) s.journal.updates below)
      (all_back (Pends (Some then_tree) then_pending) (mark g.lanes g.cut then_tree) s.journal.updates
      (lost_pends (Some then_tree) (map (mark g.lanes g.cut then_tree) s.journal.updates) then_pending none_lost))

  -- What is kept of each flag when a render is committed.
  committed_rest : s.event.lane ≡ None → AllFacts p (with_render s g) → Rest p (committed_state s g (numbered s.numbers new))
  committed_rest none facts = (committed_base, λ m k at flag. go m k at flag (instance_stood (sight_of p s g) s.tree new s.numbers b.tree gives m at))
    where
      go : (m : Mounted) (k : ℕ) → IsIn m (mounted (Some then_tree)) → flags_a_transition p m.component k ≡ true → (s.numbers.instance ≤ m.number) ⊎ Stands (mounted s.tree) m.number m.component
          → FactsOf (committed_state s g (numbered s.numbers new)) (hook m.number k)
      go m k at flag (inl late) =
          new_flag (hook m.number k)
          (all_more (λ u. (k i : ℕ) → s.numbers.instance ≤ i → same_target (hook i k) u.target ≡ false) (λ u. same_target (hook m.number k) u.target ≡ false) (λ u h. h k m.number late) s.journal.updates below)
      go m k at flag (inr stood) =
          let was : flags_a_transition p stood.0.component k ≡ true = subst (λ (n : ℕ). flags_a_transition p n k ≡ true) (sym stood.3) flag in
          let before : FactsOf (with_render s g) (hook m.number k) = subst (λ (n : ℕ). FactsOf (with_render s g) (hook n k)) stood.2 (facts stood.0 k stood.1 was) in
          let ended : FlagFacts s.tree (hook m.number k) (linked_lanes s.linked (hook m.number k)) s.schedule.links (Some g) None s.schedule.next_transition s.journal.updates =
          subst (λ (on : Option Lane). FlagFacts s.tree (hook m.number k) (linked_lanes s.linked (hook m.number k)) s.schedule.links (Some g) on s.schedule.next_transition s.journal.updates) none before in
          subst (λ (on : Option Lane). FlagFacts (Some then_tree) (hook m.number k) (linked_lanes s.linked (hook m.number k)) (links_among s.schedule.links then_pending) None on
          s.schedule.next_transition (map (mark g.lanes g.cut then_tree) s.journal.updates)) (sym none)
          (committed_facts s.tree then_tree (hook m.number k) (linked_lanes s.linked (hook m.number k)) s.schedule.links (links_among s.schedule.links then_pending) g s.schedule.next_transition
          s.journal.updates then_pending (λ l n h x y. linked_among s.schedule.links then_pending l n h x y) (mounted_here (Some then_tree) m k at) each_known ended)

-- The end of a render

pub passive_rest : (p : Program) (s : State) (b : Bool) → Rest p s → Rest p (if b then passive_run s else silent s).after
passive_rest p s true h =
    (record { tree = h.0.tree; counted = h.0.counted; lost = h.0.lost; owed = h.0.owed; next = h.0.next; unclaimed = h.0.unclaimed }, h.1)
passive_rest p s false h = h

passive_event : (s : State) (b : Bool) → (if b then passive_run s else silent s).after.event ≡ s.event
passive_event s true = refl
passive_event s false = refl

-- no render is in progress any more
pub dropped_rest : (p : Program) (s : State) (g : Option Progress) → Rest p (record s { progress = g }) → Rest p (record s { progress = None })
dropped_rest p s g h = (
  record { tree = h.0.tree; counted = h.0.counted; lost = h.0.lost; owed = h.0.owed; next = h.0.next; unclaimed = h.0.unclaimed },
  λ m k at flag.
      discarded s.tree (hook m.number k) (linked_lanes s.linked (hook m.number k)) s.schedule.links g s.event.lane s.schedule.next_transition s.journal.updates (h.1 m k at flag),
)

deferred_rest : (p : Program) (s : State) (g : Progress) (counts : Counts) (a : Awaits) → Rest p (with_render s g) → Rest p (ended_by s g counts (defer a)).after × ((ended_by s g counts (defer a)).after.event ≡ s.event)
deferred_rest p s g counts a h = (go (resolved_since g.cut s.journal pairs), refl)
  where
    pairs : List Pair
    pairs = in_versions (version_of g.lanes g.cut s.journal) a

    go : (b : Bool) → Rest p (record s { schedule = if b then s.schedule else after_deferral s.schedule g.lanes pairs s.now; progress = None })
    go true = dropped_rest p s (Some g) h
    go false =
        let free = dropped_rest p s (Some g) h in
        (record { tree = free.0.tree; counted = free.0.counted; lost = free.0.lost; owed = free.0.owed; next = free.0.next; unclaimed = free.0.unclaimed }, free.1)

module _ (p : Program) (deep : depth_bound p ≤ depth_limit) (declared : ReadsDeclared p) where
  -- what is kept after a turn; and still no event goes on
  abbrev pub Turned : State → Type 0
  Turned s = Rest p s × (s.event.lane ≡ None)

  ended_rest : (s : State) (g : Progress) (counts : Counts) (tree : Node) → s.event.lane ≡ None → fresh (sight_of p s g) s.tree ≡ made tree
      → (known : List Resolution) (last : Cut) → Carries p s.journal s.numbers s.tree known last → RendersOn p s.journal known last g.lanes g.cut
      → Rest p (with_render s g) → Turned (ended s g counts tree).after
  ended_rest s g counts tree none gives known last c r h = go (outcome g.lanes s.tree tree) refl
    where
      base : Base p s
      base = record { tree = h.0.tree; counted = h.0.counted; lost = h.0.lost; owed = h.0.owed; next = h.0.next; unclaimed = h.0.unclaimed }

      go : (o : Outcome) → outcome g.lanes s.tree tree ≡ o → Turned (ended_by s g counts o).after
      go (defer a) e = let d = deferred_rest p s g counts a h in (d.0, none)
      go (commit new) e =
          let same : new ≡ tree = commit_is p deep declared g.lanes s.tree tree new e in
          let gives_new : fresh (sight_of p s g) s.tree ≡ made new = gives ∙ ap made (sym same) in
          let end = committed_state s g (numbered s.numbers new) in (
            passive_rest p end (has g.lanes lane.Sync) (committed_rest p s g new gives_new known last c r base none h.1),
            ap (λ e. e.lane) (passive_event end (has g.lanes lane.Sync)) ∙ none,
          )

  going_rest : (s : State) (g : Progress) (budget : Option ℕ) (r : Stretch) → s.event.lane ≡ None → GoesOn AnyRender p s g budget r
      → (known : List Resolution) (last : Cut) → Carries p s.journal s.numbers s.tree known last → RendersOn p s.journal known last g.lanes g.cut
      → Rest p (with_render s g) → Turned r.after
  going_rest s g budget r none (inl f, _) known last c on h =
      same_after Turned r (ended s g f.counts f.tree) f.stretch_is (ended_rest s g f.counts f.tree none f.rendered known last c on h)
  going_rest s g budget r none (inr y, _) known last c on h =
      same_after Turned r (record { lines = []; bodies = y.bodies; after = record s { progress = Some (gone_on g y.budget y.bodies) } }) y.stretch_is (
        (
          record { tree = h.0.tree; counted = h.0.counted; lost = h.0.lost; owed = h.0.owed; next = h.0.next; unclaimed = h.0.unclaimed },
          λ m k at flag. gone_further s.tree (hook m.number k) (linked_lanes s.linked (hook m.number k)) s.schedule.links g s.event.lane s.schedule.next_transition s.journal.updates _ _ (h.1 m k at flag),
        ),
        none,
      )

  -- a render that starts
  starting_rest : (s : State) (lanes : Lanes) → s.event.lane ≡ None → choice_of s ≡ choice.Start lanes → Rest p s → Rest p (with_render s (starting s lanes))
  starting_rest s lanes none starts h = (
    record { tree = h.0.tree; counted = h.0.counted; lost = h.0.lost; owed = h.0.owed; next = h.0.next; unclaimed = h.0.unclaimed },
    λ m k at flag. one (hook m.number k) (h.1 m k at flag),
  )
    where
      one : (flag : Target) → FactsOf s flag → FactsOf (with_render s (starting s lanes)) flag
      one flag facts =
          subst (λ (on : Option Lane). FlagFacts s.tree flag (linked_lanes s.linked flag) s.schedule.links (Some (starting s lanes)) on s.schedule.next_transition s.journal.updates) (sym none)
          (render_starts s.tree flag (linked_lanes s.linked flag) s.schedule.links s.progress s.schedule.next_transition s.journal.updates s.schedule.pending (starting s lanes) refl
          (start_reaches s.schedule (option_map (λ g. g.lanes) s.progress) lanes starts)
          (lost_pends s.tree s.journal.updates s.schedule.pending h.0.lost)
          (subst (λ (on : Option Lane). FlagFacts s.tree flag (linked_lanes s.linked flag) s.schedule.links s.progress on s.schedule.next_transition s.journal.updates) none facts))

  turn_by_rest : (s : State) (x : Choice) → choice_of s ≡ x → (budget : Option ℕ) (r : Stretch) → TurnBy AnyRender p s x budget r → s.event.lane ≡ None → IsCarried p s → Rest p s → Turned r.after
  turn_by_rest s choice.None chosen budget r is none c h = same_after Turned r (silent s) is (h, none)
  turn_by_rest s choice.Keep chosen budget r on none c h = go s.progress refl c.3 on
    where
      go : (x : Option Progress) → s.progress ≡ x → IfSome x (λ g. RendersOn p s.journal c.0 c.1 g.lanes g.cut) → Continues AnyRender p s x budget r → Turned r.after
      go None is e k = absurd k
      go (Some g) is e k = going_rest s g budget r none k c.0 c.1 c.2 e (subst (λ (x : Option Progress). Rest p (record s { progress = x })) is h)
  turn_by_rest s (choice.Start lanes) chosen budget r starts none c h =
      same_after Turned r (followed_by (passive_run s) starts.rest) starts.stretch_is
      (going_rest (passive_run s).after (starting s lanes) budget starts.rest none starts.begins c.0 c.1 c.2 (start_renders p s.journal s.numbers s.tree lanes c.0 c.1 c.2)
      (with_passive (starting_rest s lanes none chosen h)))
    where
      with_passive : Rest p (with_render s (starting s lanes)) → Rest p (with_render (passive_run s).after (starting s lanes))
      with_passive k = (record { tree = k.0.tree; counted = k.0.counted; lost = k.0.lost; owed = k.0.owed; next = k.0.next; unclaimed = k.0.unclaimed }, k.1)

  -- What is kept of all flags in a turn between events.
  pub turn_rest : (s : State) (budget : Option ℕ) (r : Stretch) → TurnBy AnyRender p s (choice_of s) budget r → s.event.lane ≡ None → IsCarried p s → Rest p s
      → IsCarried p r.after × Rest p r.after × (r.after.event.lane ≡ None)
  turn_rest s budget r t none c h =
      let turned = turn_by_rest s (choice_of s) refl budget r t none c h in (turn_keeps p deep declared s (choice_of s) budget r t c, turned.0, turned.1)
