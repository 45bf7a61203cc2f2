-- If a steady run ends quiet, what it shows is told by its script without the lanes.
use Rattle.std.specs.List.{AllByRecursion}
use Rattle.std.specs.Prelude.{Bool, IfSome, List, Option, Some, [], cond, false, filter, length, map, not, refl, slice_get, true, ℕ, ℤ, ◌++◌, ◌∷◌, ◌≡◌}
use Rattle.std.specs.List.{zip}
use Rattle.std.proofs.Common.{ap, append-nil, arith, subst, sym, ◌∙◌}
use Rattle.std.proofs.lemmas.Option.{same_Some}
use Rattle.rx_ast.specs.Syntax.{Program}
use Rattle.rx_base.specs.Values.{Name}
use Rattle.rx_elem.specs.Spots.{Mounted, Spot, at_root, mounted, spot_mark, spots}
use Rattle.rx_elem.specs.Trees.{Node, element_of, is_caught, is_hidden}
use Rattle.rx_forest.specs.Hosts.{hosts}
use Rattle.rx_lines.specs.Lines.{HookValue, Line, report_bytes, state_head, state_of, tree_lines}
use Rattle.rx_meaning.specs.Fresh.{default_contexts, root_element}
use Rattle.rx_meaning.specs.Settled.{IsSound, Known, ReadsHold, version_done}
use Rattle.rx_model.proofs.NeverWaits.{app_never_waits}
use Rattle.rx_model.proofs.AskingLess.{any-run}
use Rattle.rx_model.proofs.Reached.{runs-reach, start-reached}
use Rattle.rx_model.specs.Laws.{IsBounded, IsReached, ShowsEverything, everything}
use Rattle.rx_model.specs.Turns.{OfRender, AnyRender}
use Rattle.rx_model.specs.Machine.{RunTo}
use Rattle.rx_model.specs.State.{State, committed_values, end_line, hooks_at, is_quiet, name_of, opening, state_line}
use Rattle.rx_model.specs.Stretch.{Stretch}
use Rattle.rx_queue.specs.Journal.{Journal, Target}
use Rattle.rx_queue.specs.declared.update.Op.{Op}
use Rattle.rx_step.specs.declared.step.Step.{Step}
use Rattle.rx_step.specs.declared.step.Step.TheVariants as step
use Rattle.host_laws.specs.Commits.{IfSound}
use Rattle.host_laws.specs.Commits as commits
use Rattle.commit_laws.proofs.Soundness.{resolution_keeps}
use Rattle.commit_laws.specs.HiddenWaits.{Numbered}
use Rattle.commit_laws.specs.Quiet.{RefreshesDone}
use Rattle.replay_laws.specs.Attributes.{AttributesApart}
use Rattle.replay_laws.proofs.Committing.{renders_commit}
use Rattle.replay_laws.proofs.Reached.{reached_committed}
use Rattle.run_laws.proofs.AlongRuns.{reached_carries}
use Rattle.run_laws.proofs.QuietEnds.{quiet_shows}
use Rattle.run_laws.specs.Carried.{Carries}
use Rattle.sync_laws.proofs.SameTexts.{texts_same}
use Rattle.sync_laws.proofs.SameTrees.{Beside, HasSameValues, NoneAt, SameTree, trees_same}
use Rattle.sync_laws.proofs.SameValues.{each_place, sent, values_same}
use Rattle.sync_laws.proofs.Sending.{HasInstances, Mounts, resolves, same_resolves, same_sends, sends, told_in_sync, trees_first}
use Rattle.sync_laws.proofs.Versions.{done_sent, quiet_refreshes, refreshes_sent}
use Rattle.sync_laws.proofs.Starting.{Comes, first_before, first_tree, run_comes}
use Rattle.sync_laws.specs.Sync.{IsLike, IsSteady, LanesLaw, ShowTheSame, SyncLaw, all_in_sync, told, trees_of}

-- Spots without a hidden boundary, and without an error boundary that has caught a value

none_at : (xs : List Spot) → length (filter (λ s. is_hidden (spot_mark s)) xs) ≡ 0 → length (filter (λ s. is_caught (spot_mark s)) xs) ≡ 0 → NoneAt xs
none_at [] h k = tt
none_at (x ∷ xs) h k = go (is_hidden (spot_mark x)) (is_caught (spot_mark x)) refl refl h k (none_at xs)
  where
    go : (b c : Bool) → is_hidden (spot_mark x) ≡ b → is_caught (spot_mark x) ≡ c
        → length (cond b (x ∷ filter (λ s. is_hidden (spot_mark s)) xs) (filter (λ s. is_hidden (spot_mark s)) xs)) ≡ 0
        → length (cond c (x ∷ filter (λ s. is_caught (spot_mark s)) xs) (filter (λ s. is_caught (spot_mark s)) xs)) ≡ 0
        → (length (filter (λ s. is_hidden (spot_mark s)) xs) ≡ 0 → length (filter (λ s. is_caught (spot_mark s)) xs) ≡ 0 → NoneAt xs) → NoneAt (x ∷ xs)
    go true c e f h k rest = absurd (omega arith)
    go false true e f h k rest = absurd (omega arith)
    go false false e f h k rest = ((e, f), rest h k)

-- the lines of instances are the same if these have the same values
lines_same : (p : Program) (j k : Journal) (all : List Mounted) → AllByRecursion (λ m. committed_values p j m ≡ committed_values p k m) all
    → map (state_line p j) all ≡ map (state_line p k) all
lines_same p j k [] h = refl
lines_same p j k (m ∷ all) h = λ i. line m (h.0 i) ∷ lines_same p j k all h.1 i
  where
    line : Mounted → List ℤ → Line
    line m values =
        state_of m.number (name_of p m.component) (map (λ (x : Name × ℤ). let v : HookValue = record { name = x.0; value = x.1 } in v) (zip (hooks_at p m.component) values)) (not m.visible)

-- What is known of a quiet end

-- a quiet state with a tree of these instances
record IsEnd (p : Program) (all : List Mounted) (s : State) : Type 0 where
  tree : Node
  is_tree : s.tree ≡ Some tree
  instances : mounted (Some tree) ≡ all
  sound : IsSound p (record { updates = s.journal.updates; resolutions = s.journal.resolutions }) s.numbers.instance (Some tree)
  numbered : Numbered tree
  rooted : element_of tree ≡ root_element p
  none_hidden : NoneAt (spots at_root tree)
  hosts_sound : commits.IsSound tree
  shows : ShowsEverything p s
  refreshed : RefreshesDone s.journal.updates

module _ (p : Program) (bounded : IsBounded p) (apart : AttributesApart p) where
  quiet_end : (all : List Mounted) (s : State) → IsReached p s → is_quiet s ≡ true → Mounts all s → IsEnd p all s
  quiet_end all s reached quiet mounts =
      let carried = reached_carries p bounded.shallow bounded.declared s reached in
      let carries : Carries p s.journal s.numbers (Some mounts.0) carried.0 carried.1 =
      subst (λ (o : Option Node). Carries p s.journal s.numbers o carried.0 carried.1) mounts.1 carried.2 in
      let again = app_never_waits p bounded (everything p s) s.tree refl in
      record {
        tree = mounts.0;
        is_tree = mounts.1;
        instances = mounts.2;
        sound = resolution_keeps p s.journal.updates carried.0 s.journal.resolutions s.numbers.instance (Some mounts.0) carries.seen carries.sound;
        numbered = carries.numbered;
        rooted = carries.rooted;
        none_hidden = mounts.3;
        hosts_sound = subst IfSound mounts.1
            (renders_commit p bounded apart (everything p s) s.numbers s.tree again.0 refl (reached_committed p s reached) again.1).0.old_sound;
        shows = quiet_shows p bounded s reached quiet;
        refreshed = quiet_refreshes p bounded s reached quiet;
      }

  -- two quiet ends with the same instances show the same, if the same was sent and resolved
  ends_same : (all : List Mounted) (s t : State) → IsEnd p all s → IsEnd p all t → sent s.journal.updates ≡ sent t.journal.updates → s.journal.resolutions ≡ t.journal.resolutions
      → ShowTheSame p s t
  ends_same all s t e f same resolved =
      record {
        trees = λ o. ap (λ (x : Option Node). report_bytes o (tree_lines (hosts x))) e.is_tree
            ∙ (texts_same e.tree f.tree trees e.hosts_sound f.hosts_sound o ∙ sym (ap (λ (x : Option Node). report_bytes o (tree_lines (hosts x))) f.is_tree));
        states = ap (λ (ms : List Mounted). state_head ∷ map (state_line p s.journal) ms) (listed s e)
            ∙ (ap (λ (ls : List Line). state_head ∷ ls) (lines_same p s.journal t.journal all values)
            ∙ sym (ap (λ (ms : List Mounted). state_head ∷ map (state_line p t.journal) ms) (listed t f)));
      }
    where
      listed : (u : State) → IsEnd p all u → mounted u.tree ≡ all
      listed u g = ap mounted g.is_tree ∙ g.instances

      values : AllByRecursion (λ m. committed_values p s.journal m ≡ committed_values p t.journal m) all
      values =
          each_place (λ m. committed_values p s.journal m ≡ committed_values p t.journal m) all
          (λ k m there. values_same p s t m (e.shows.hooks k m (ap (λ (ms : List Mounted). slice_get ms k) (listed s e) ∙ there))
          (f.shows.hooks k m (ap (λ (ms : List Mounted). slice_get ms k) (listed t f) ∙ there)) same)

      one : Known
      one = record { updates = s.journal.updates; resolutions = s.journal.resolutions }

      two : Known
      two = record { updates = t.journal.updates; resolutions = t.journal.resolutions }

      version : ℕ → ℕ
      version = version_done s.journal.updates

      versions_are : version_done t.journal.updates ≡ version
      versions_are =
          λ i r. (done_sent r t.journal.updates f.refreshed
          ∙ (ap (λ (zs : List (Target × Op)). refreshes_sent zs r) (sym same) ∙ sym (done_sent r s.journal.updates e.refreshed))) i

      beside : Beside p one two resolved version (spots at_root e.tree) (spots at_root f.tree)
      beside = (
        e.none_hidden,
        f.none_hidden,
        e.instances ∙ sym f.instances,
        subst (AllByRecursion (HasSameValues p one two resolved version)) (sym e.instances) values,
      )

      trees : SameTree e.tree f.tree
      trees =
          (trees_same p one two resolved version (default_contexts p) at_root at_root e.tree f.tree [] [] e.sound.settled f.sound.settled e.numbered f.numbered e.sound.reads
          (subst (λ (v : ℕ → ℕ). ReadsHold v (default_contexts p) f.tree) versions_are f.sound.reads)
          (e.rooted ∙ sym f.rooted)
          (subst (λ (xs : List Spot). Beside p one two resolved version xs (spots at_root f.tree ++ [])) (sym (append-nil (spots at_root e.tree)))
          (subst (λ (ys : List Spot). Beside p one two resolved version (spots at_root e.tree) ys) (sym (append-nil (spots at_root f.tree))) beside))).0

  -- Runs

  -- what a steady run commits has the instances of its first tree
  steady_has : (steps : List Step) (lines : List Line) (whole : List Line) (last : Line) (n : Node) → lines ≡ whole ++ last ∷ [] → slice_get (trees_of whole) 0 ≡ Some n → IsSteady steps lines
      → AllByRecursion (HasInstances (mounted (Some n))) (trees_of whole)
  steady_has steps lines whole last n is first steady = each (trees_of whole) (trees_first (IsLike n) whole (last ∷ []) (subst (λ (ls : List Line). AllByRecursion (IsLike n) (trees_of ls)) is alike))
    where
      start : slice_get (trees_of lines) 0 ≡ Some n
      start = ap (λ (ls : List Line). slice_get (trees_of ls) 0) is ∙ first_before whole (last ∷ []) n first

      alike : AllByRecursion (IsLike n) (trees_of lines)
      alike = subst (λ (o : Option Node). IfSome o (λ m. AllByRecursion (IsLike m) (trees_of lines))) start steady.alike

      each : (ns : List Node) → AllByRecursion (IsLike n) ns → AllByRecursion (HasInstances (mounted (Some n))) ns
      each [] h = tt
      each (m ∷ ns) h = ((h.0.instances, none_at (spots at_root m) h.0.none_hidden h.0.none_caught), each ns h.1)

  runs_same : (xs ys : List Step) → told ys ≡ told xs → (a b : Stretch) → RunTo AnyRender p opening (step.Flush ∷ xs) a → RunTo AnyRender p opening (step.Flush ∷ ys) b
      → (c : Comes p xs a) (d : Comes p ys b)
      → AllByRecursion (HasInstances (mounted (Some (first_tree c.tree)))) (trees_of a.lines)
      → AllByRecursion (HasInstances (mounted (Some (first_tree d.tree)))) (trees_of b.lines)
      → is_quiet a.after ≡ true → is_quiet b.after ≡ true → ShowTheSame p a.after b.after
  runs_same xs ys same a b run other c d good good_too quiet quiet_too =
      ends_same all a.after b.after (quiet_end all a.after (runs-reach p opening (start-reached p) (step.Flush ∷ xs) a run) quiet first.0)
      (quiet_end all b.after (runs-reach p opening (start-reached p) (step.Flush ∷ ys) b other) quiet_too second.0)
      (first.1 ∙ sym (second.1 ∙ same_sends p all xs ys same)) (first.2 ∙ sym (second.2 ∙ same_resolves p all xs ys [] [] same))
    where
      trees : c.tree ≡ d.tree
      trees = let both = sym c.gives ∙ d.gives in cc

      all : List Mounted
      all = mounted (Some (first_tree c.tree))

      first : Mounts all a.after × (sent a.after.journal.updates ≡ sends p all xs) × (a.after.journal.resolutions ≡ resolves p all xs [] [])
      first = c.ends good

      second : Mounts all b.after × (sent b.after.journal.updates ≡ sends p all ys) × (b.after.journal.resolutions ≡ resolves p all ys [] [])
      second =
          subst (λ (n : Node). Mounts (mounted (Some (first_tree n))) b.after × (sent b.after.journal.updates ≡ sends p (mounted (Some (first_tree n))) ys)
          × (b.after.journal.resolutions ≡ resolves p (mounted (Some (first_tree n))) ys [] [])) (sym trees) (d.ends good_too)

-- Neither lanes nor when renders are made show in quiet ends of steady runs.
pub lanes_law : (First Second : OfRender) (p : Program) → LanesLaw First Second p
lanes_law First Second p bounded apart [] rivals same lines others bodies more a b steady steady_too quiet quiet_too = absurd (cc steady.begins)
lanes_law First Second p bounded apart (x ∷ xs) [] same lines others bodies more a b steady steady_too quiet quiet_too = absurd (cc steady_too.begins)
lanes_law First Second p bounded apart (x ∷ xs) (y ∷ ys) same lines others bodies more a b steady steady_too quiet quiet_too =
    let is : x ≡ step.Flush = same_Some x step.Flush steady.begins in
    let also : y ≡ step.Flush = same_Some y step.Flush steady_too.begins in
    let run : RunTo AnyRender p opening (step.Flush ∷ xs) a.whole = subst (λ (z : Step). RunTo AnyRender p opening (z ∷ xs) a.whole) is (any-run First p opening (x ∷ xs) a.whole a.runs) in
    let other : RunTo AnyRender p opening (step.Flush ∷ ys) b.whole = subst (λ (z : Step). RunTo AnyRender p opening (z ∷ ys) b.whole) also (any-run Second p opening (y ∷ ys) b.whole b.runs) in
    let told_alike : told (step.Flush ∷ ys) ≡ told (step.Flush ∷ xs) =
    subst (λ (z : Step). told (z ∷ ys) ≡ told (step.Flush ∷ xs)) also (subst (λ (z : Step). told (y ∷ ys) ≡ told (z ∷ xs)) is same) in
    let c = run_comes p bounded.shallow bounded.declared xs a.whole run in
    let d = run_comes p bounded.shallow bounded.declared ys b.whole other in
    runs_same p bounded apart xs ys told_alike a.whole b.whole run other c d
    (steady_has p bounded apart (x ∷ xs) lines a.whole.lines (end_line a.whole.after) (first_tree c.tree) a.lines_are c.first steady)
    (steady_has p bounded apart (y ∷ ys) others b.whole.lines (end_line b.whole.after) (first_tree d.tree) b.lines_are d.first steady_too) quiet quiet_too

-- So it is with a script in Sync.
pub sync_law : (First Second : OfRender) (p : Program) → SyncLaw First Second p
sync_law First Second p bounded apart steps lines others bodies more a b steady steady_too quiet quiet_too =
    lanes_law First Second p bounded apart steps (all_in_sync steps) (told_in_sync steps) lines others bodies more a b steady steady_too quiet quiet_too
