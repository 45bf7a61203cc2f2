-- What is carried holds in each state that can be reached.
use Rattle.std.specs.Prelude.{Bool, IfSome, List, None, Option, Some, [], false, if◌then◌else◌, refl, true, ℕ, ℤ, ◌++◌, ◌∷◌, ◌≡◌, ◌≤◌}
use Rattle.std.proofs.Common.{ap, arith, inl, inr, subst, sym, ◌∙◌}
use Rattle.rx_ast.specs.Syntax.{Program}
use Rattle.rx_base.specs.Awaits.{Awaits}
use Rattle.rx_base.specs.Values.{Name}
use Rattle.rx_base.specs.declared.cut.Cut.{Cut}
use Rattle.rx_rules.specs.Bounds.{depth_bound}
use Rattle.rx_rules.specs.Names.{resource_number}
use Rattle.rx_elem.specs.Compare.{Change}
use Rattle.rx_elem.specs.Numbers.{numbered}
use Rattle.rx_elem.specs.Spots.{Mounted}
use Rattle.rx_elem.specs.Trees.{Node}
use Rattle.rx_meaning.specs.Fresh.{depth_limit, fresh, made}
use Rattle.rx_meaning.specs.Outcome.{Outcome, all_awaits, commit, defer, newly_hidden, outcome, outcome_by}
use Rattle.rx_lane.specs.Lanes.{Lanes, only_transitions}
use Rattle.rx_lane.specs.declared.lane.Lane.{Lane}
use Rattle.rx_model.specs.Accepting.{accepted, dispatched_for, in_event, lane_of, next_update, resolved_as}
use Rattle.rx_model.specs.Committing.{committed_state, ended, ended_by, passive_run, sight_of, starting}
use Rattle.rx_model.specs.Laws.{Always, IsReached}
use Rattle.rx_model.specs.State.{Progress, State, instance_found, opening}
use Rattle.rx_model.specs.Stretch.{Stretch, followed_by, silent}
use Rattle.rx_model.specs.Turns.{AnyRender, Continues, GoesOn, TurnBy, choice_of, gone_on}
use Rattle.rx_queue.specs.Journal.{Resolution, Target, hook, resolutions_by, resource, same_target}
use Rattle.rx_queue.specs.declared.update.Op.{Op}
use Rattle.rx_queue.specs.declared.update.Op.TheVariants as op
use Rattle.rx_lines.specs.Lines.{Counts}
use Rattle.rx_sched.specs.declared.choice.Choice.{Choice}
use Rattle.rx_step.specs.Steps.{Path}
use Rattle.rx_step.specs.declared.step.LaneWord.{LaneWord}
use Rattle.run_laws.proofs.Carrying.{commit_carries, done_before, resolution_carries, resolution_renders, start_renders, target_below, update_carries, update_renders}
use Rattle.commit_laws.proofs.Soundness.{resolution_keeps}
use Rattle.run_laws.proofs.Walk.{holds_along, same_after}
use Rattle.run_laws.specs.Carried.{Carries, IsCarried, RendersOn, RestsOnSettled}
use Rattle.rx_rules.specs.Reads.{ReadsDeclared}
use Rattle.rx_sched.specs.declared.choice.Choice.TheVariants as choice
use Rattle.rx_step.specs.declared.step.LaneWord.TheVariants as word
use Rattle.rx_lane.specs.declared.lane.Lane.TheVariants as lane
use Rattle.rx_lane.specs.Lanes as lanes_of

pub opening_carries : (p : Program) → IsCarried p opening
opening_carries p = (
  [],
  record { updates = 0; resolutions = 0 },
  record {
    below = tt;
    sound = record { settled = tt; own_numbers = λ n. (omega arith, λ late. refl); targets = tt; reads = tt };
    seen = λ r v x h. absurd (cc h);
    numbered = tt;
    rooted = tt;
    updates_before = omega arith;
    resolutions_before = omega arith;
    committed = tt;
  },
  tt,
  refl,
)

module _ (p : Program) (deep : depth_bound p ≤ depth_limit) (declared : ReadsDeclared p) where
  -- Passive effects

  passive_keeps : (s : State) (b : Bool) → IsCarried p s → IsCarried p (if b then passive_run s else silent s).after
  passive_keeps s true c = c
  passive_keeps s false c = c

  -- The end of a render

  pub commit_is : (lanes : Lanes) (old : Option Node) (tree new : Node) → outcome lanes old tree ≡ commit new → new ≡ tree
  commit_is lanes old tree new h = go (newly_hidden old tree) h
    where
      waits_or : (b : Bool) (a : Awaits) → (if b then defer a else commit tree) ≡ commit new → new ≡ tree
      waits_or true a e = absurd (cc e)
      waits_or false a e = cc

      go : (cs : List Change) → outcome_by lanes tree cs ≡ commit new → new ≡ tree
      go [] e = cc
      go (c ∷ cs) e = waits_or (only_transitions lanes) (all_awaits (c ∷ cs)) e

  ended_keeps : (s : State) (g : Progress) (counts : Counts) (tree : Node) → fresh (sight_of p s g) s.tree ≡ made tree
      → (known : List Resolution) (last : Cut) → Carries p s.journal s.numbers s.tree known last → RendersOn p s.journal known last g.lanes g.cut → s.seen ≡ last.resolutions
      → IsCarried p (ended s g counts tree).after
  ended_keeps s g counts tree gives known last c r saw = go (outcome g.lanes s.tree tree) refl
    where
      go : (o : Outcome) → outcome g.lanes s.tree tree ≡ o → IsCarried p (ended_by s g counts o).after
      go (defer a) e = (known, last, c, tt, saw)
      go (commit new) e =
          let same : new ≡ tree = commit_is g.lanes s.tree tree new e in
          let gives_new : fresh (sight_of p s g) s.tree ≡ made new = gives ∙ ap made (sym same) in
          passive_keeps (committed_state s g (numbered s.numbers new)) (lanes_of.has g.lanes lane.Sync)
          (resolutions_by g.cut s.journal, g.cut, commit_carries p s.journal s.numbers s.tree g.lanes g.cut s.seen new deep declared known last c r gives_new, tt, refl)

  going_keeps : (s : State) (g : Progress) (budget : Option ℕ) (r : Stretch) → GoesOn AnyRender p s g budget r
      → (known : List Resolution) (last : Cut) → Carries p s.journal s.numbers s.tree known last → RendersOn p s.journal known last g.lanes g.cut → s.seen ≡ last.resolutions → IsCarried p r.after
  going_keeps s g budget r (inl f, _) known last c on saw = same_after (IsCarried p) r (ended s g f.counts f.tree) f.stretch_is (ended_keeps s g f.counts f.tree f.rendered known last c on saw)
  going_keeps s g budget r (inr y, _) known last c on saw =
      same_after (IsCarried p) r (record { lines = []; bodies = y.bodies; after = record s { progress = Some (gone_on g y.budget y.bodies) } }) y.stretch_is (known, last, c, on, saw)

  pub turn_keeps : (s : State) (c : Choice) (budget : Option ℕ) (r : Stretch) → TurnBy AnyRender p s c budget r → IsCarried p s → IsCarried p r.after
  turn_keeps s choice.None budget r is c = same_after (IsCarried p) r (silent s) is c
  turn_keeps s choice.Keep budget r on c = go s.progress c.3 on
    where
      go : (x : Option Progress) → IfSome x (λ g. RendersOn p s.journal c.0 c.1 g.lanes g.cut) → Continues AnyRender p s x budget r → IsCarried p r.after
      go None e h = absurd h
      go (Some g) e h = going_keeps s g budget r h c.0 c.1 c.2 e c.4
  turn_keeps s (choice.Start lanes) budget r starts c =
      same_after (IsCarried p) r (followed_by (passive_run s) starts.rest) starts.stretch_is
      (going_keeps (passive_run s).after (starting s lanes) budget starts.rest starts.begins c.0 c.1 c.2 (start_renders p s.journal s.numbers s.tree lanes c.0 c.1 c.2) c.4)

  -- Dispatches and resolutions

  accepted_keeps : (s : State) (t : Target) (o : Op) (l : Lane) → ((k i : ℕ) → s.numbers.instance ≤ i → same_target (hook i k) t ≡ false)
      → IsCarried p s → IsCarried p (accepted s (next_update s.journal t o l))
  accepted_keeps s t o l below c = (
    c.0,
    c.1,
    update_carries p s.journal s.numbers s.tree (next_update s.journal t o l) refl refl below c.0 c.1 c.2,
    go s.progress c.3,
    c.4,
  )
    where
      go : (x : Option Progress) → IfSome x (λ g. RendersOn p s.journal c.0 c.1 g.lanes g.cut)
          → IfSome x (λ g. RendersOn p (record s.journal { updates = s.journal.updates ++ next_update s.journal t o l ∷ [] }) c.0 c.1 g.lanes g.cut)
      go None e = tt
      go (Some g) e = update_renders p s.journal c.0 c.1 g.lanes g.cut (next_update s.journal t o l) refl e

  sent_keeps : (s : State) (w : LaneWord) (t : Target) (o : Op) → ((k i : ℕ) → s.numbers.instance ≤ i → same_target (hook i k) t ≡ false)
      → IsCarried p s → IsCarried p (dispatched_for s w t o)
  sent_keeps s word.Sync t o below c = accepted_keeps s t o (lane_of s word.Sync) below c
  sent_keeps s word.Input t o below c = accepted_keeps s t o (lane_of s word.Input) below c
  sent_keeps s word.Default t o below c = accepted_keeps s t o (lane_of s word.Default) below c
  sent_keeps s word.Transition t o below c = accepted_keeps (in_event word.Transition s t (lane_of s word.Transition)) t o (lane_of s word.Transition) below c

  pub hook_keeps : (s : State) (w : LaneWord) (path : Path) (m : Mounted) (k : ℕ) (o : Op) → instance_found p s.tree path ≡ Some m → IsCarried p s
      → IsCarried p (dispatched_for s w (hook m.number k) o)
  hook_keeps s w path m k o e c =
      sent_keeps s w (hook m.number k) o (λ i n late. target_below p s.numbers.instance s.tree path m c.2.sound.own_numbers e k i n late) c

  -- a refresh has no instance's target
  pub refreshed_keeps : (s : State) (w : LaneWord) (r : ℕ) → IsCarried p s → IsCarried p (dispatched_for s w (resource r) op.Refresh)
  refreshed_keeps s w r c = sent_keeps s w (resource r) op.Refresh (λ k i late. refl) c

  pub resolved_keeps : (s : State) (name : Name) (v : ℤ) (x : Option ℤ) → IsCarried p s → IsCarried p (resolved_as p s name v x).after
  resolved_keeps s name v (Some y) c = c
  resolved_keeps s name v None c = (
    c.0,
    c.1,
    resolution_carries p s.journal s.numbers s.tree (record { resource = resource_number p name; value = v }) c.0 c.1 c.2,
    go s.progress c.3,
    c.4,
  )
    where
      go : (x : Option Progress) → IfSome x (λ g. RendersOn p s.journal c.0 c.1 g.lanes g.cut)
          → IfSome x (λ g. RendersOn p (record s.journal { resolutions = s.journal.resolutions ++ (record { resource = resource_number p name; value = v }) ∷ [] }) c.0 c.1 g.lanes g.cut)
      go None e = tt
      go (Some g) e = resolution_renders p s.journal c.0 c.1 g.lanes g.cut (record { resource = resource_number p name; value = v }) e

  -- What is carried holds in each state that can be reached.
  pub reached_carries : (s : State) → IsReached p s → IsCarried p s
  reached_carries s h =
      holds_along p (IsCarried p)
      (record {
        starts = opening_carries p;
        events = λ s e c. c;
        ticks = λ s n c. c;
        passive = λ s c. c;
        turns = λ s budget r t c. turn_keeps s (choice_of s) budget r t c;
        sends = hook_keeps;
        refreshes = refreshed_keeps;
        resolves = λ s name v x e c. resolved_keeps s name v x c;
        discards = λ s c. (c.0, c.1, c.2, tt, c.4);
      }) s h

-- So a render in progress stands on a settled tree.
pub rests_on_settled : (p : Program) → Always p (RestsOnSettled p)
rests_on_settled p bounded s reached g now =
    let c = reached_carries p bounded.shallow bounded.declared s reached in
    let on : RendersOn p s.journal c.0 c.1 g.lanes g.cut = subst (λ (x : Option Progress). IfSome x (λ g. RendersOn p s.journal c.0 c.1 g.lanes g.cut)) now c.3 in
    let sound = resolution_keeps p s.journal.updates c.0 (resolutions_by g.cut s.journal) s.numbers.instance s.tree on.more c.2.sound in
    (sound.settled, done_before g.cut s.journal.updates on.accounted, sound.reads)
