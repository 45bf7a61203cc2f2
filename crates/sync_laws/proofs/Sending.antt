-- What a steady run sends to hooks and resolves, by its script alone.
use Rattle.std.specs.List.{AllByRecursion, cons_option}
use Rattle.std.specs.Prelude.{Bool, List, None, Option, Some, [], if◌then◌else◌, map, refl, suc, zero, false, true, ℕ, ℤ, pos, ◌++◌, ◌∷◌, ◌≡◌, ◌≤◌}
use Rattle.std.proofs.Common.{ap, append-nil, append_assoc, inl, inr, subst, sym, ◌∙◌}
use Rattle.rx_ast.specs.Syntax.{Program}
use Rattle.rx_base.specs.Values.{Name}
use Rattle.rx_base.specs.declared.cut.Cut.{Cut}
use Rattle.rx_rules.specs.Bounds.{depth_bound}
use Rattle.rx_rules.specs.Names.{resource_number}
use Rattle.rx_rules.specs.Reads.{ReadsDeclared}
use Rattle.rx_elem.specs.Numbers.{numbered}
use Rattle.rx_elem.specs.Spots.{Mounted, at_root, kept_instances, mounted, numbers_of, spots, visible_instances}
use Rattle.rx_elem.specs.Trees.{Node}
use Rattle.rx_lane.specs.Lanes.{Lanes, has}
use Rattle.rx_lane.specs.declared.lane.Lane.TheVariants as lane
use Rattle.rx_lines.specs.Lines.{Counts, Line, logged}
use Rattle.rx_effect.specs.EffectLog.{passive_log}
use Rattle.rx_meaning.specs.Fresh.{depth_limit, fresh, made}
use Rattle.rx_meaning.specs.Outcome.{Outcome, commit, defer, outcome}
use Rattle.rx_model.specs.Accepting.{between_events, dispatched, dispatched_for, dispatched_to, enqueued, lane_of, last_value, next_update, op_of, resolved, resolved_as, target_of, unset_by, within}
use Rattle.rx_model.specs.Committing.{committed_state, ended, ended_by, passive_run, sight_of, starting}
use Rattle.rx_model.proofs.Reached.{step-reached}
use Rattle.rx_model.specs.Laws.{IsReached}
use Rattle.rx_model.specs.Machine.{IsAtRest, FlushSync, Flushes, RunTo, StepTo}
use Rattle.rx_model.specs.State.{Progress, State, find_from, instance_found}
use Rattle.rx_model.specs.Stretch.{Stretch, followed_by, silent}
use Rattle.rx_model.specs.Turns.{AnyRender, Continues, GoesOn, TurnBy, choice_of, gone_on}
use Rattle.rx_queue.specs.Journal.{Posted, Resolution, Target, marked_update, resolved_now, resource}
use Rattle.rx_queue.specs.declared.update.Op.{Op}
use Rattle.rx_queue.specs.declared.update.Op.TheVariants as op
use Rattle.rx_sched.specs.declared.choice.Choice.{Choice}
use Rattle.rx_sched.specs.declared.choice.Choice.TheVariants as choice
use Rattle.rx_step.specs.Steps.{path_of, word_of}
use Rattle.rx_step.specs.declared.step.Dispatch.{Dispatch}
use Rattle.rx_step.specs.declared.step.Dispatch.TheVariants as dispatch
use Rattle.rx_step.specs.declared.step.LaneWord.{LaneWord}
use Rattle.rx_step.specs.declared.step.LaneWord.TheVariants as word
use Rattle.rx_step.specs.declared.step.StartWord.TheVariants as start
use Rattle.rx_step.specs.declared.step.Step.{Step}
use Rattle.rx_step.specs.declared.step.Step.TheVariants as step
use Rattle.run_laws.proofs.AlongRuns.{commit_is, reached_carries, turn_keeps}
use Rattle.run_laws.specs.Carried.{Carries, IsCarried}
use Rattle.sync_laws.proofs.Instances.{instances_kept}
use Rattle.sync_laws.proofs.SameTrees.{NoneAt}
use Rattle.sync_laws.proofs.SameValues.{sent, sent_by}
use Rattle.sync_laws.proofs.Versions.{last_sent, refreshes_sent}
use Rattle.sync_laws.specs.Sync.{all_in_sync, in_sync, told, tree_of, trees_of}

-- What scripts send and resolve

-- what a dispatch sends to its target beside its update: a start unsets its flag
abbrev pub unset_sent : Dispatch → Target → List (Target × Op)
unset_sent (dispatch.Set w path name x) t = []
unset_sent (dispatch.Call w path name f x) t = []
unset_sent (dispatch.Send w path name x) t = []
unset_sent (dispatch.Start w path name) t = (t, op.Set (pos 0)) ∷ []
unset_sent (dispatch.Refresh w name) t = []

-- what a dispatch sends to the instance that its path leads to, if it leads to one
abbrev pub sent_to : Program → Dispatch → Option Mounted → List (Target × Op)
sent_to p d None = []
sent_to p d (Some m) = (target_of p d m, op_of p m.component d) ∷ unset_sent d (target_of p d m)

-- what a dispatch sends, among these instances or to a resource
abbrev pub dispatch_sent : Program → List Mounted → Dispatch → List (Target × Op)
dispatch_sent p all (dispatch.Set w path name x) = sent_to p (dispatch.Set w path name x) (find_from p all None path)
dispatch_sent p all (dispatch.Call w path name f x) = sent_to p (dispatch.Call w path name f x) (find_from p all None path)
dispatch_sent p all (dispatch.Send w path name x) = sent_to p (dispatch.Send w path name x) (find_from p all None path)
dispatch_sent p all (dispatch.Start w path name) = sent_to p (dispatch.Start w path name) (find_from p all None path)
dispatch_sent p all (dispatch.Refresh w name) = (resource (resource_number p name), op.Refresh) ∷ []

-- what a step sends, among these instances or to a resource
abbrev pub step_sends : Program → List Mounted → Step → List (Target × Op)
step_sends p all (step.Dispatch d) = dispatch_sent p all d
step_sends p all (step.Resolve name x) = []
step_sends p all (step.Tick n) = []
step_sends p all (step.Work n) = []
step_sends p all step.Flush = []
step_sends p all step.FlushSync = []
step_sends p all step.Passive = []
step_sends p all step.Event = []
step_sends p all step.State = []
step_sends p all step.Tree = []

-- what steps send
abbrev pub sends : Program → List Mounted → List Step → List (Target × Op)
sends p all [] = []
sends p all (x ∷ xs) = step_sends p all x ++ sends p all xs

-- resolutions after one more, of a resource whose last version has this value or none
abbrev pub resolved_into : Program → Name → ℤ → List Resolution → Option ℤ → List Resolution
resolved_into p name x rs None = rs ++ (record { resource = resource_number p name; value = x }) ∷ []
resolved_into p name x rs (Some y) = rs

-- resolutions after a step, by what was sent before it
abbrev pub step_resolves : Program → Step → List (Target × Op) → List Resolution → List Resolution
step_resolves p (step.Dispatch d) ss rs = rs
step_resolves p (step.Resolve name x) ss rs =
    let r = resource_number p name in resolved_into p name x rs (resolved_now (record { updates = []; resolutions = rs }) r (refreshes_sent ss r))
step_resolves p (step.Tick n) ss rs = rs
step_resolves p (step.Work n) ss rs = rs
step_resolves p step.Flush ss rs = rs
step_resolves p step.FlushSync ss rs = rs
step_resolves p step.Passive ss rs = rs
step_resolves p step.Event ss rs = rs
step_resolves p step.State ss rs = rs
step_resolves p step.Tree ss rs = rs

-- resolutions after steps, by what was sent before them
abbrev pub resolves : Program → List Mounted → List Step → List (Target × Op) → List Resolution → List Resolution
resolves p all [] ss rs = rs
resolves p all (x ∷ xs) ss rs = resolves p all xs (ss ++ step_sends p all x) (step_resolves p x ss rs)

-- the lane of a dispatch doesn't matter to what it sends
sent_in_sync : (p : Program) (all : List Mounted) (d : Dispatch) → step_sends p all (step.Dispatch (in_sync d)) ≡ step_sends p all (step.Dispatch d)
sent_in_sync p all (dispatch.Set w path name x) = go (find_from p all None path)
  where
    go : (o : Option Mounted) → sent_to p (dispatch.Set word.Sync path name x) o ≡ sent_to p (dispatch.Set w path name x) o
    go None = refl
    go (Some m) = refl
sent_in_sync p all (dispatch.Call w path name f x) = go (find_from p all None path)
  where
    go : (o : Option Mounted) → sent_to p (dispatch.Call word.Sync path name f x) o ≡ sent_to p (dispatch.Call w path name f x) o
    go None = refl
    go (Some m) = refl
sent_in_sync p all (dispatch.Send w path name x) = go (find_from p all None path)
  where
    go : (o : Option Mounted) → sent_to p (dispatch.Send word.Sync path name x) o ≡ sent_to p (dispatch.Send w path name x) o
    go None = refl
    go (Some m) = refl
sent_in_sync p all (dispatch.Start w path name) = go (find_from p all None path)
  where
    go : (o : Option Mounted) → sent_to p (dispatch.Start start.Sync path name) o ≡ sent_to p (dispatch.Start w path name) o
    go None = refl
    go (Some m) = refl
sent_in_sync p all (dispatch.Refresh w name) = refl

-- so what a script tells beside its lanes sends the same
sends_told : (p : Program) (all : List Mounted) (xs : List Step) → sends p all (told xs) ≡ sends p all xs
sends_told p all [] = refl
sends_told p all (step.Dispatch d ∷ xs) = λ i. sent_in_sync p all d i ++ sends_told p all xs i
sends_told p all (step.Resolve name x ∷ xs) = sends_told p all xs
sends_told p all (step.Tick n ∷ xs) = sends_told p all xs
sends_told p all (step.Work n ∷ xs) = sends_told p all xs
sends_told p all (step.Flush ∷ xs) = sends_told p all xs
sends_told p all (step.FlushSync ∷ xs) = sends_told p all xs
sends_told p all (step.Passive ∷ xs) = sends_told p all xs
sends_told p all (step.Event ∷ xs) = sends_told p all xs
sends_told p all (step.State ∷ xs) = sends_told p all xs
sends_told p all (step.Tree ∷ xs) = sends_told p all xs

-- to send nothing changes nothing of what is resolved
sends_nothing : (p : Program) (all : List Mounted) (xs : List Step) (ss : List (Target × Op)) (rs : List Resolution) → resolves p all xs ss rs ≡ resolves p all xs (ss ++ []) rs
sends_nothing p all xs ss rs = ap (λ (zs : List (Target × Op)). resolves p all xs zs rs) (sym (append-nil ss))

-- and resolves the same
resolves_told : (p : Program) (all : List Mounted) (xs : List Step) (ss : List (Target × Op)) (rs : List Resolution) → resolves p all (told xs) ss rs ≡ resolves p all xs ss rs
resolves_told p all [] ss rs = refl
resolves_told p all (step.Dispatch d ∷ xs) ss rs =
    ap (λ (zs : List (Target × Op)). resolves p all (told xs) (ss ++ zs) rs) (sent_in_sync p all d) ∙ resolves_told p all xs (ss ++ step_sends p all (step.Dispatch d)) rs
resolves_told p all (step.Resolve name x ∷ xs) ss rs = resolves_told p all xs (ss ++ []) (step_resolves p (step.Resolve name x) ss rs)
resolves_told p all (step.Tick n ∷ xs) ss rs = resolves_told p all xs ss rs ∙ sends_nothing p all xs ss rs
resolves_told p all (step.Work n ∷ xs) ss rs = resolves_told p all xs ss rs ∙ sends_nothing p all xs ss rs
resolves_told p all (step.Flush ∷ xs) ss rs = resolves_told p all xs ss rs ∙ sends_nothing p all xs ss rs
resolves_told p all (step.FlushSync ∷ xs) ss rs = resolves_told p all xs ss rs ∙ sends_nothing p all xs ss rs
resolves_told p all (step.Passive ∷ xs) ss rs = resolves_told p all xs ss rs ∙ sends_nothing p all xs ss rs
resolves_told p all (step.Event ∷ xs) ss rs = resolves_told p all xs ss rs ∙ sends_nothing p all xs ss rs
resolves_told p all (step.State ∷ xs) ss rs = resolves_told p all xs ss rs ∙ sends_nothing p all xs ss rs
resolves_told p all (step.Tree ∷ xs) ss rs = resolves_told p all xs ss rs ∙ sends_nothing p all xs ss rs

-- scripts that tell the same send and resolve the same
pub same_sends : (p : Program) (all : List Mounted) (xs ys : List Step) → told ys ≡ told xs → sends p all ys ≡ sends p all xs
same_sends p all xs ys same = sym (sends_told p all ys) ∙ (ap (sends p all) same ∙ sends_told p all xs)

pub same_resolves : (p : Program) (all : List Mounted) (xs ys : List Step) (ss : List (Target × Op)) (rs : List Resolution) → told ys ≡ told xs → resolves p all ys ss rs ≡ resolves p all xs ss rs
same_resolves p all xs ys ss rs same = sym (resolves_told p all ys ss rs) ∙ (ap (λ (zs : List Step). resolves p all zs ss rs) same ∙ resolves_told p all xs ss rs)

in_sync_already : (d : Dispatch) → in_sync (in_sync d) ≡ in_sync d
in_sync_already (dispatch.Set w path name x) = refl
in_sync_already (dispatch.Call w path name f x) = refl
in_sync_already (dispatch.Send w path name x) = refl
in_sync_already (dispatch.Start w path name) = refl
in_sync_already (dispatch.Refresh w name) = refl

-- a script in Sync tells what the script tells
pub told_in_sync : (xs : List Step) → told (all_in_sync xs) ≡ told xs
told_in_sync [] = refl
told_in_sync (step.Dispatch d ∷ xs) = λ i. step.Dispatch (in_sync_already d i) ∷ told_in_sync xs i
told_in_sync (step.Resolve name x ∷ xs) = ap (λ (zs : List Step). step.Resolve name x ∷ zs) (told_in_sync xs)
told_in_sync (step.Tick n ∷ xs) = told_in_sync xs
told_in_sync (step.Work n ∷ xs) = told_in_sync xs
told_in_sync (step.Flush ∷ xs) = told_in_sync xs
told_in_sync (step.FlushSync ∷ xs) = told_in_sync xs
told_in_sync (step.Passive ∷ xs) = told_in_sync xs
told_in_sync (step.Event ∷ xs) = told_in_sync xs
told_in_sync (step.State ∷ xs) = told_in_sync xs
told_in_sync (step.Tree ∷ xs) = told_in_sync xs

-- Trees that lines commit

pub trees_first : (G : Node → Type 0) (xs ys : List Line) → AllByRecursion G (trees_of (xs ++ ys)) → AllByRecursion G (trees_of xs)
trees_first G [] ys h = tt
trees_first G (x ∷ xs) ys h = go (tree_of x) h (trees_first G xs ys)
  where
    go : (o : Option Node) → AllByRecursion G (cons_option o (trees_of (xs ++ ys))) → (AllByRecursion G (trees_of (xs ++ ys)) → AllByRecursion G (trees_of xs))
        → AllByRecursion G (cons_option o (trees_of xs))
    go None k rest = rest k
    go (Some n) k rest = (k.0, rest k.1)

pub trees_last : (G : Node → Type 0) (xs ys : List Line) → AllByRecursion G (trees_of (xs ++ ys)) → AllByRecursion G (trees_of ys)
trees_last G [] ys h = h
trees_last G (x ∷ xs) ys h = go (tree_of x) h (trees_last G xs ys)
  where
    go : (o : Option Node) → AllByRecursion G (cons_option o (trees_of (xs ++ ys))) → (AllByRecursion G (trees_of (xs ++ ys)) → AllByRecursion G (trees_of ys))
        → AllByRecursion G (trees_of ys)
    go None k rest = rest k
    go (Some n) k rest = rest k.1

-- Journals

sent_marked : (lanes : Lanes) (cut : Cut) (visible kept : List ℕ) (us : List Posted) → sent (map (marked_update lanes cut visible kept) us) ≡ sent us
sent_marked lanes cut visible kept [] = refl
sent_marked lanes cut visible kept (u ∷ us) = ap (λ (zs : List (Target × Op)). sent_by u ∷ zs) (sent_marked lanes cut visible kept us)

sent_append : (us vs : List Posted) → sent (us ++ vs) ≡ sent us ++ sent vs
sent_append [] vs = refl
sent_append (u ∷ us) vs = ap (λ (zs : List (Target × Op)). sent_by u ∷ zs) (sent_append us vs)

-- a state has a tree with these instances, in which nothing is hidden
abbrev pub Mounts : List Mounted → State → Type 0
Mounts all s = (n : Node) × (s.tree ≡ Some n) × (mounted (Some n) ≡ all) × NoneAt (spots at_root n)

-- what is known of a committed tree: it has the numbers of these instances, and nothing in it is hidden
abbrev pub HasInstances : List Mounted → Node → Type 0
HasInstances all n = (numbers_of (mounted (Some n)) ≡ numbers_of all) × NoneAt (spots at_root n)

module _ (p : Program) (deep : depth_bound p ≤ depth_limit) (declared : ReadsDeclared p) (all : List Mounted) where
  -- nothing is sent or resolved, and the instances are the same
  abbrev pub Stays : State → State → Type 0
  Stays s t = Mounts all t × (sent t.journal.updates ≡ sent s.journal.updates) × (t.journal.resolutions ≡ s.journal.resolutions)

  abbrev pub Good : List Line → Type 0
  Good lines = AllByRecursion (HasInstances all) (trees_of lines)

  same_stays : (s : State) (r q : Stretch) → r ≡ q → (Good q.lines → Stays s q.after) → Good r.lines → Stays s r.after
  same_stays s r q e h = subst (λ (x : Stretch). Good x.lines → Stays s x.after) (sym e) h

  -- Turns

  passive_stays : (s t : State) (b : Bool) → Stays s t → Stays s (if b then passive_run t else silent t).after
  passive_stays s t true h = h
  passive_stays s t false h = h

  -- a commit of a tree with the same numbers of instances, in which nothing is hidden, has the same instances
  commit_mounts : (s : State) (g : Progress) (new : Node) → fresh (sight_of p s g) s.tree ≡ made new → IsCarried p s → (h : Mounts all s) → HasInstances all (numbered s.numbers new).1
      → mounted (Some (numbered s.numbers new).1) ≡ all
  commit_mounts s g new gives carried h good =
      let c : Carries p s.journal s.numbers (Some h.0) carried.0 carried.1 =
      subst (λ (o : Option Node). Carries p s.journal s.numbers o carried.0 carried.1) h.1 carried.2 in
      let gives_there : fresh (sight_of p s g) (Some h.0) ≡ made new = subst (λ (o : Option Node). fresh (sight_of p s g) o ≡ made new) h.1 gives in
      instances_kept (sight_of p s g) (record { updates = s.journal.updates; resolutions = carried.0 }) s.numbers h.0 new c.sound.settled c.numbered c.sound.own_numbers c.rooted gives_there
      h.3 good.1 (good.0 ∙ sym (ap numbers_of h.2))
      ∙ h.2

  ended_stays : (s : State) (g : Progress) (counts : Counts) (tree : Node) → fresh (sight_of p s g) s.tree ≡ made tree → IsCarried p s → Mounts all s
      → Good (ended s g counts tree).lines → Stays s (ended s g counts tree).after
  ended_stays s g counts tree gives carried h = go (outcome g.lanes s.tree tree) refl
    where
      go : (o : Outcome) → outcome g.lanes s.tree tree ≡ o → Good (ended_by s g counts o).lines → Stays s (ended_by s g counts o).after
      go (defer a) e good = (h, refl, refl)
      go (commit new) e good =
          let gives_new : fresh (sight_of p s g) s.tree ≡ made new = gives ∙ ap made (sym (commit_is p deep declared g.lanes s.tree tree new e)) in
          passive_stays s (committed_state s g (numbered s.numbers new)) (has g.lanes lane.Sync)
          (((numbered s.numbers new).1, refl, commit_mounts s g new gives_new carried h good.0, good.0.1), sent_marked g.lanes g.cut (visible_instances (Some (numbered s.numbers new).1)) (kept_instances (Some (numbered s.numbers new).1)) s.journal.updates, refl)

  going_stays : (s : State) (g : Progress) (budget : Option ℕ) (r : Stretch) → GoesOn AnyRender p s g budget r → IsCarried p s → Mounts all s → Good r.lines → Stays s r.after
  going_stays s g budget r (inl f, _) carried h = same_stays s r (ended s g f.counts f.tree) f.stretch_is (ended_stays s g f.counts f.tree f.rendered carried h)
  going_stays s g budget r (inr y, _) carried h =
      same_stays s r (record { lines = []; bodies = y.bodies; after = record s { progress = Some (gone_on g y.budget y.bodies) } }) y.stretch_is (λ good. (h, refl, refl))

  turn_stays : (s : State) (c : Choice) (budget : Option ℕ) (r : Stretch) → TurnBy AnyRender p s c budget r → IsCarried p s → Mounts all s → Good r.lines → Stays s r.after
  turn_stays s choice.None budget r is carried h = same_stays s r (silent s) is (λ good. (h, refl, refl))
  turn_stays s choice.Keep budget r on carried h = go s.progress on
    where
      go : (x : Option Progress) → Continues AnyRender p s x budget r → Good r.lines → Stays s r.after
      go None k = absurd k
      go (Some g) k = going_stays s g budget r k carried h
  turn_stays s (choice.Start lanes) budget r starts carried h =
      same_stays s r (followed_by (passive_run s) starts.rest) starts.stretch_is
      (λ good. going_stays (passive_run s).after (starting s lanes) budget starts.rest starts.begins carried h
      (trees_last (HasInstances all) (map logged (passive_log s.passive)) starts.rest.lines good))

  stay_longer : (s t u : State) → Stays s t → Stays t u → Stays s u
  stay_longer s t u h k = (k.0, k.1 ∙ h.1, k.2 ∙ h.2)

  pub flushes_stay : (n : ℕ) (s : State) (r : Stretch) → Flushes AnyRender IsAtRest n p s r → IsCarried p s → Mounts all s → Good r.lines → Stays s r.after
  flushes_stay zero s r t carried h = same_stays s r (silent s) t.1 (λ good. (h, refl, refl))
  flushes_stay (suc n) s r t carried h =
      same_stays s r (followed_by t.1 t.2) t.5
      (λ good.
      let first = turn_stays s (choice_of s) None t.1 t.3 carried h (trees_first (HasInstances all) t.1.lines t.2.lines good) in
      stay_longer s t.1.after t.2.after first (flushes_stay n t.1.after t.2 t.4 (turn_keeps p deep declared s (choice_of s) None t.1 t.3 carried) first.0 (trees_last (HasInstances all) t.1.lines t.2.lines good)))

  sync_stays : (b : Bool) (s : State) (r : Stretch) → FlushSync AnyRender b p s r → IsCarried p s → Mounts all s → Good r.lines → Stays s r.after
  sync_stays true s r t carried h = turn_stays s (choice_of s) None r t carried h
  sync_stays false s r t carried h = same_stays s r (silent s) t (λ good. (h, refl, refl))

  -- Steps

  -- what steps send is sent, what they resolve is resolved, and the instances are the same
  abbrev pub Sends : State → List Step → State → Type 0
  Sends s xs t = Mounts all t × (sent t.journal.updates ≡ sent s.journal.updates ++ sends p all xs) × (t.journal.resolutions ≡ resolves p all xs (sent s.journal.updates) s.journal.resolutions)

  quiet_sends : (s t : State) → Stays s t → Mounts all t × (sent t.journal.updates ≡ sent s.journal.updates ++ []) × (t.journal.resolutions ≡ s.journal.resolutions)
  quiet_sends s t h = (h.0, h.1 ∙ sym (append-nil (sent s.journal.updates)), h.2)

  -- what one step sends is sent, and what it resolves is resolved
  abbrev StepSends : State → Step → State → Type 0
  StepSends s x t = Mounts all t × (sent t.journal.updates ≡ sent s.journal.updates ++ step_sends p all x) × (t.journal.resolutions ≡ step_resolves p x (sent s.journal.updates) s.journal.resolutions)

  -- an update that is accepted is sent
  accepted_sends : (s : State) (w : LaneWord) (t : Target) (o : Op) → Mounts all s
      → Mounts all (dispatched_for s w t o) × (sent (dispatched_for s w t o).journal.updates ≡ sent s.journal.updates ++ (t, o) ∷ [])
      × ((dispatched_for s w t o).journal.resolutions ≡ s.journal.resolutions)
  accepted_sends s word.Sync t o h = (h, sent_append s.journal.updates (next_update s.journal t o (lane_of s word.Sync) ∷ []), refl)
  accepted_sends s word.Input t o h = (h, sent_append s.journal.updates (next_update s.journal t o (lane_of s word.Input) ∷ []), refl)
  accepted_sends s word.Default t o h = (h, sent_append s.journal.updates (next_update s.journal t o (lane_of s word.Default) ∷ []), refl)
  accepted_sends s word.Transition t o h = (h, sent_append s.journal.updates (next_update s.journal t o (lane_of s word.Transition) ∷ []), refl)

  -- so is that which unsets the flag of a start
  unset_sends : (s : State) (d : Dispatch) (t : Target) → Mounts all s
      → Mounts all (unset_by d t s) × (sent (unset_by d t s).journal.updates ≡ sent s.journal.updates ++ unset_sent d t)
      × ((unset_by d t s).journal.resolutions ≡ s.journal.resolutions)
  unset_sends s (dispatch.Set w path name x) t h = (h, sym (append-nil (sent s.journal.updates)), refl)
  unset_sends s (dispatch.Call w path name f x) t h = (h, sym (append-nil (sent s.journal.updates)), refl)
  unset_sends s (dispatch.Send w path name x) t h = (h, sym (append-nil (sent s.journal.updates)), refl)
  unset_sends s (dispatch.Start w path name) t h = accepted_sends s word.Transition t (op.Set (pos 0)) h
  unset_sends s (dispatch.Refresh w name) t h = (h, sym (append-nil (sent s.journal.updates)), refl)

  found_sends : (s : State) (d : Dispatch) (o : Option Mounted) → Mounts all s
      → Mounts all (dispatched_to p s d o).after × (sent (dispatched_to p s d o).after.journal.updates ≡ sent s.journal.updates ++ sent_to p d o)
      × ((dispatched_to p s d o).after.journal.resolutions ≡ s.journal.resolutions)
  found_sends s d None h = (h, sym (append-nil (sent s.journal.updates)), refl)
  found_sends s d (Some m) h =
      let t = target_of p d m in
      let first = accepted_sends s (word_of d) t (op_of p m.component d) h in
      let other = unset_sends (dispatched_for s (word_of d) t (op_of p m.component d)) d t first.0 in (
        other.0,
        other.1 ∙ (ap (λ (us : List (Target × Op)). us ++ unset_sent d t) first.1 ∙ append_assoc (sent s.journal.updates) ((t, op_of p m.component d) ∷ []) (unset_sent d t)),
        other.2 ∙ first.2,
      )

  found : (s : State) (d : Dispatch) → Mounts all s → instance_found p s.tree (path_of d) ≡ find_from p all None (path_of d)
  found s d h = ap (λ (t : Option Node). find_from p (mounted t) None (path_of d)) h.1 ∙ ap (λ (ms : List Mounted). find_from p ms None (path_of d)) h.2

  -- a dispatch to a hook sends to the instance that is found
  hook_sends : (s : State) (d : Dispatch) → Mounts all s
      → Mounts all (dispatched_to p s d (instance_found p s.tree (path_of d))).after
      × (sent (dispatched_to p s d (instance_found p s.tree (path_of d))).after.journal.updates ≡ sent s.journal.updates ++ sent_to p d (find_from p all None (path_of d)))
      × ((dispatched_to p s d (instance_found p s.tree (path_of d))).after.journal.resolutions ≡ s.journal.resolutions)
  hook_sends s d h =
      subst (λ (q : Stretch). Mounts all q.after × (sent q.after.journal.updates ≡ sent s.journal.updates ++ sent_to p d (find_from p all None (path_of d)))
      × (q.after.journal.resolutions ≡ s.journal.resolutions))
      (sym (ap (dispatched_to p s d) (found s d h))) (found_sends s d (find_from p all None (path_of d)) h)

  enqueued_sends : (s : State) (d : Dispatch) → Mounts all s → StepSends s (step.Dispatch d) (enqueued p s d).after
  enqueued_sends s (dispatch.Set w path name x) h = hook_sends s (dispatch.Set w path name x) h
  enqueued_sends s (dispatch.Call w path name f x) h = hook_sends s (dispatch.Call w path name f x) h
  enqueued_sends s (dispatch.Send w path name x) h = hook_sends s (dispatch.Send w path name x) h
  enqueued_sends s (dispatch.Start w path name) h = hook_sends s (dispatch.Start w path name) h
  enqueued_sends s (dispatch.Refresh w name) h = accepted_sends s w (resource (resource_number p name)) op.Refresh h

  dispatch_sends : (s : State) (d : Dispatch) → Mounts all s → StepSends s (step.Dispatch d) (dispatched p s d).after
  dispatch_sends s d h = enqueued_sends (within d s) d h

  resolution_sends : (s : State) (name : Name) (x : ℤ) (o : Option ℤ) → Mounts all s
      → Mounts all (resolved_as p s name x o).after × (sent (resolved_as p s name x o).after.journal.updates ≡ sent s.journal.updates ++ [])
      × ((resolved_as p s name x o).after.journal.resolutions ≡ resolved_into p name x s.journal.resolutions o)
  resolution_sends s name x None h = (h, sym (append-nil (sent s.journal.updates)), refl)
  resolution_sends s name x (Some y) h = (h, sym (append-nil (sent s.journal.updates)), refl)

  -- whether the last version has a value is told by what was sent
  resolved_sends : (s : State) (name : Name) (x : ℤ) → Mounts all s → StepSends s (step.Resolve name x) (resolved p (between_events s) name x).after
  resolved_sends s name x h =
      let r = resource_number p name in
      let ends = resolution_sends (between_events s) name x (last_value s r) h in (
        ends.0,
        ends.1,
        ends.2 ∙ ap (λ (v : ℕ). resolved_into p name x s.journal.resolutions (resolved_now s.journal r v)) (last_sent r s.journal.updates),
      )

  step_ends : (s : State) (x : Step) (r : Stretch) → StepTo AnyRender p s x r → IsCarried p s → Mounts all s → Good r.lines → StepSends s x r.after
  step_ends s (step.Dispatch d) r t carried h good = subst (λ (q : Stretch). StepSends s (step.Dispatch d) q.after) (sym t) (dispatch_sends s d h)
  step_ends s (step.Resolve name x) r t carried h good = subst (λ (q : Stretch). StepSends s (step.Resolve name x) q.after) (sym t) (resolved_sends s name x h)
  step_ends s (step.Tick n) r t carried h good = subst (λ (q : Stretch). StepSends s (step.Tick n) q.after) (sym t) (quiet_sends s s (h, refl, refl))
  step_ends s (step.Work n) r t carried h good = quiet_sends s r.after (turn_stays (between_events s) (choice_of (between_events s)) (Some n) r t carried h good)
  step_ends s step.Flush r t carried h good = quiet_sends s r.after (flushes_stay t.0 (between_events s) r t.2 carried h good)
  step_ends s step.FlushSync r t carried h good = quiet_sends s r.after (sync_stays (has s.schedule.pending lane.Sync) (between_events s) r t carried h good)
  step_ends s step.Passive r t carried h good = subst (λ (q : Stretch). StepSends s step.Passive q.after) (sym t) (quiet_sends s s (h, refl, refl))
  step_ends s step.Event r t carried h good = subst (λ (q : Stretch). StepSends s step.Event q.after) (sym t) (quiet_sends s s (h, refl, refl))
  step_ends s step.State r t carried h good = subst (λ (q : Stretch). StepSends s step.State q.after) (sym t) (quiet_sends s s (h, refl, refl))
  step_ends s step.Tree r t carried h good = subst (λ (q : Stretch). StepSends s step.Tree q.after) (sym t) (quiet_sends s s (h, refl, refl))

  -- What a steady run sends and resolves is what its script says, by the instances of the first commit.
  pub run_sends : (s : State) (xs : List Step) (r : Stretch) → RunTo AnyRender p s xs r → IsReached p s → Mounts all s → Good r.lines → Sends s xs r.after
  run_sends s [] r is reached h good = subst (λ (q : Stretch). Sends s [] q.after) (sym is) (quiet_sends s s (h, refl, refl))
  run_sends s (x ∷ xs) r run reached h good =
      let lines : Good (run.0.lines ++ run.1.lines) = subst (λ (q : Stretch). Good q.lines) run.4 good in
      let first = step_ends s x run.0 run.2 (reached_carries p deep declared s reached) h (trees_first (HasInstances all) run.0.lines run.1.lines lines) in
      let later = run_sends run.0.after xs run.1 run.3 (step-reached p s x run.0 reached run.2) first.0 (trees_last (HasInstances all) run.0.lines run.1.lines lines) in
      subst (λ (q : Stretch). Sends s (x ∷ xs) q.after) (sym run.4) (
        later.0,
        later.1 ∙ (ap (λ (zs : List (Target × Op)). zs ++ sends p all xs) first.1 ∙ append_assoc (sent s.journal.updates) (step_sends p all x) (sends p all xs)),
        later.2 ∙ (λ i. resolves p all xs (first.1 i) (first.2 i)),
      )
