-- What the plain machine stands for after the end of a render.
use Rattle.std.proofs.Common.{◌≡◌, ℕ, ◌+◌, ◌≤◌, Bool, true, false, cond, List, [], ◌∷◌, ◌++◌, map, refl, sym, ap, ◌∙◌, subst, arith, Option, Some, None}
use Rattle.std.specs.Prelude.{◌&&◌}
use Rattle.std.proofs.lemmas.List.{length-map}
use Rattle.rx_base.specs.Awaits.{Awaits}
use Rattle.rx_lane.specs.declared.lane.Lane.{Lane}
use Rattle.rx_lane.specs.declared.lane.Lane.TheVariants as lane
use Rattle.rx_lane.specs.Lanes.{Lanes, has, intersection, lanes_where, no_lanes, one, only_transitions, union}
use Rattle.rx_lane.specs.SetLaws.{lanes_agree}
use Rattle.rx_ast.specs.Syntax.{Program}
use Rattle.rx_rules.specs.Bounds.{node_bound}
use Rattle.rx_rules.specs.Versions.{greatest_node_limit}
use Rattle.rx_rules.proofs.Limits.{limits_nodes}
use Rattle.rx_check.specs.Accepted.{IsAccepted}
use Rattle.rx_check.proofs.Limited.{few-resources}
use Rattle.rx_elem.specs.Compare.{Change, compare_trees}
use Rattle.rx_elem.specs.Numbers.{Numbers, numbered}
use Rattle.rx_elem.specs.Spots.{node_count}
use Rattle.rx_elem.specs.Trees.{Node}
use Rattle.rx_effect.specs.EffectLog.{Passive, layout_log, no_passive, passive_log, passive_of}
use Rattle.rx_lines.specs.Lines.{Counts, Written, deferred, logged, with_line}
use Rattle.rx_queue.specs.Journal.{has_later}
use Rattle.rx_sched.specs.Schedule.{Schedule, after_commit}
use Rattle.rx_meaning.specs.Fresh.{fresh, made}
use Rattle.rx_meaning.specs.Outcome.{Outcome, awaits_resolved, commit, newly_caught, newly_hidden, outcome, outcome_by, still_pending}
use Rattle.rx_model.specs.State.{Progress, State}
use Rattle.rx_model.specs.Stretch.{silent}
use Rattle.rx_model.specs.Committing.{commit_lines, committed_as, committed_state, deferred_as, ended, ended_by, passive_run, schedule_deferred, sight_of}
use Rattle.rx_model.specs.HooksOf.{KeepsAllHooks}
use Rattle.rx_model.specs.Kept.{IsSet}
use Rattle.rx_model.specs.Laws.{IsBounded, IsReached}
use Rattle.run_laws.proofs.RunTrees.{renders_bounded}
use Rattle.end_laws.specs.Trimmed.{trimmed, trimmed_if}
use Rattle.end_laws.proofs.Compared.{trees_same}
use Rattle.end_laws.proofs.Logs.{layout_same, passive_same}
use Rattle.end_laws.proofs.Outcomes.{caught_same}
use Rattle.rx_hook_store.specs.Store as hooks
use Rattle.rx_hook_store.specs.Store.{kept_hooks}
use Rattle.rx_hook_store.proofs.Numbered.{links_committed}
use Rattle.rx_hook_store.proofs.Staying.{all_stay}
use Rattle.rx_numbers.specs.Room.{FitIn}
use Rattle.rx_resources.specs.Kept.{Kept, committed}
use Rattle.rx_settle.specs.Settling.{IsSettlingOf}
use Rattle.rx_spots.specs.Waits.{AreWithinReach}
use Rattle.rx_writing.specs.Written.{with_lines}
use Rattle.rx_plain.specs.Plained.{Going, Plained}
use Rattle.rx_plain.specs.Doing.{HasDone, KnowsSince}
use Rattle.rx_plain.specs.Stands.{HasProgress, HasRoomForTurns, LeavesRoom, StandsFor, StandsWith}
use Rattle.rx_kept.specs.Keeping.{AreDeclared, KeepsResources}
use Rattle.rx_writing.proofs.Behind.{with_lines-append, with_lines-one}
use Rattle.rx_kept.proofs.NumbersGrow.{hosts_grow, instances_grow}
use Rattle.rx_kept.proofs.Resources.{commit_declared, commit_stays}

-- ---- trimmed trees

-- what error boundaries catch of trimmed trees
pub caught-trimmed : (old : Option Node) (new : Node) (o : Option Node) (n : Node) → o ≡ trimmed_if old → n ≡ trimmed new → newly_caught o n ≡ newly_caught old new
caught-trimmed old new o n e f = ap (λ (t : Option Node). newly_caught t n) e ∙ ap (newly_caught (trimmed_if old)) f ∙ caught_same old new

-- the layout effects of trimmed trees
pub layout-trimmed : (old : Option Node) (new : Node) (o : Option Node) (n : Node) → o ≡ trimmed_if old → n ≡ trimmed new
    → layout_log (compare_trees o n) ≡ layout_log (compare_trees old new)
layout-trimmed old new o n e f =
    ap (λ (t : Option Node). layout_log (compare_trees t n)) e
    ∙ ap (λ (t : Node). layout_log (compare_trees (trimmed_if old) t)) f
    ∙ ap layout_log (trees_same old new)
    ∙ layout_same (compare_trees old new)

-- the passive effects of trimmed trees
pub passive-trimmed : (old : Option Node) (new : Node) (o : Option Node) (n : Node) → o ≡ trimmed_if old → n ≡ trimmed new
    → passive_of (compare_trees o n) ≡ passive_of (compare_trees old new)
passive-trimmed old new o n e f =
    ap (λ (t : Option Node). passive_of (compare_trees t n)) e
    ∙ ap (λ (t : Node). passive_of (compare_trees (trimmed_if old) t)) f
    ∙ ap passive_of (trees_same old new)
    ∙ passive_same (compare_trees old new)

-- a render that has other lanes than transitions is committed
pub not_deferred : (lanes : Lanes) (old : Option Node) (tree : Node) → only_transitions lanes ≡ false → commit tree ≡ outcome lanes old tree
not_deferred lanes old tree other = go (newly_hidden old tree)
  where
    go : (cs : List Change) → commit tree ≡ outcome_by lanes tree cs
    go [] = refl
    go (c ∷ cs) = rw other refl

-- ---- the lanes that are pending again

-- the resources with a value are some that a program reaches
pub within_reach : (p : Program) → IsAccepted p → (s : State) → AreDeclared p s.journal → AreWithinReach s.journal
within_reach p accepted s declared r v late = declared.values r v (omega (arith, late, few-resources p accepted))

pub still_as : (s : State) (g : Progress) (tree : Node) (later : Lanes) (waits : Bool) → ((l : Lane) → has later l ≡ has_later g.cut s.journal l)
    → waits ≡ awaits_resolved g.lanes g.cut s.journal tree
    → union (intersection g.lanes later) (cond waits (one lane.Retry) no_lanes) ≡ still_pending g.lanes g.cut s.journal tree
still_as s g tree later waits same e =
    ap (λ (ls : Lanes). union ls (cond waits (one lane.Retry) no_lanes))
    (lanes_agree (λ l. has g.lanes l && has later l) (λ l. has g.lanes l && has_later g.cut s.journal l) (λ l. ap (λ b. has g.lanes l && b) (same l)))
    ∙ ap (λ (b : Bool). union (lanes_where (λ l. has g.lanes l && has_later g.cut s.journal l)) (cond b (one lane.Retry) no_lanes)) e

-- ---- numbers

-- the tree of a render has few nodes
pub few_nodes : (p : Program) → IsBounded p → (s : State) (g : Progress) (tree : Node) → IsReached p s → fresh (sight_of p s g) s.tree ≡ made tree
    → node_count (Some tree) ≤ greatest_node_limit
few_nodes p bounded s g tree reached gives =
    let within = renders_bounded p bounded s reached g in
    let trees : made within.tree ≡ made tree = sym within.rendered ∙ gives in
    let same : within.tree ≡ tree = cc in
    let nodes = subst (λ (n : Node). node_count (Some n) ≤ node_bound p) same within.nodes in
    omega (arith, nodes, bounded.small, limits_nodes p)

-- the laws of the numbers of trimmed trees
abbrev pub EndsAreNotNumbered : Type 0
EndsAreNotNumbered = (next : Numbers) (n : Node) → numbered next (trimmed n) ≡ ((numbered next n).0, trimmed (numbered next n).1)

-- a trimmed tree leaves the same numbers
pub same_next : EndsAreNotNumbered → (before next : Numbers) (n x : Node) → before ≡ next → n ≡ trimmed x → (numbered before n).0 ≡ (numbered next x).0
same_next ends before next n x same is = (λ i. (numbered (same i) (is i)).0) ∙ ap (λ (y : Numbers × Node). y.0) (ends next x)

-- and gets the same
pub same_numbered : EndsAreNotNumbered → (before next : Numbers) (n x : Node) → before ≡ next → n ≡ trimmed x → (numbered before n).1 ≡ trimmed (numbered next x).1
same_numbered ends before next n x same is = (λ i. (numbered (same i) (is i)).1) ∙ ap (λ (y : Numbers × Node). y.1) (ends next x)

-- there is room for them
pub numbers_fit : (next m : Numbers) (x : Node) (v : Plained) → v.numbers ≡ next → m ≡ (numbered next x).0 → node_count (Some x) ≤ greatest_node_limit → HasRoomForTurns 1 v → FitIn m
numbers_fit next m x v same is few room =
    let instance : v.numbers.instance ≡ next.instance = ap (λ (n : Numbers). n.instance) same in
    let host : v.numbers.host ≡ next.host = ap (λ (n : Numbers). n.host) same in
    let a : m.instance ≡ (numbered next x).0.instance = ap (λ (n : Numbers). n.instance) is in
    let b : m.host ≡ (numbered next x).0.host = ap (λ (n : Numbers). n.host) is in
    record {
      instance = omega (arith, instance, a, few, room.instances, instances_grow next x);
      host = omega (arith, host, b, few, room.hosts, hosts_grow next x);
    }

-- and room for further turns is left
pub room_after : (next m : Numbers) (x : Node) (v w : Plained) → v.numbers ≡ next → m ≡ (numbered next x).0 → node_count (Some x) ≤ greatest_node_limit → w.numbers ≡ m → w.commits ≡ v.commits + 1
    → w.updates ≡ v.updates → w.resolutions ≡ v.resolutions → LeavesRoom 1 v w
room_after next m x v w same is few numbers commits updates resolutions =
    let instance : v.numbers.instance ≡ next.instance = ap (λ (n : Numbers). n.instance) same in
    let host : v.numbers.host ≡ next.host = ap (λ (n : Numbers). n.host) same in
    let a : w.numbers.instance ≡ (numbered next x).0.instance = ap (λ (n : Numbers). n.instance) (numbers ∙ is) in
    let b : w.numbers.host ≡ (numbered next x).0.host = ap (λ (n : Numbers). n.host) (numbers ∙ is) in
    record {
      room = λ more room. record {
        commits = (let r = room.commits in omega (arith, r, commits));
        instances = (let r = room.instances in let i = instances_grow next x in omega (arith, instance, a, few, r, i));
        hosts = (let r = room.hosts in let i = hosts_grow next x in omega (arith, host, b, few, r, i));
      };
      updates = updates;
      resolutions = resolutions;
    }

-- a deferral leaves all the room
pub room_deferred : (v w : Plained) → w.numbers ≡ v.numbers → w.commits ≡ v.commits → w.updates ≡ v.updates → w.resolutions ≡ v.resolutions → LeavesRoom 1 v w
room_deferred v w numbers commits updates resolutions =
    let instance : w.numbers.instance ≡ v.numbers.instance = ap (λ (n : Numbers). n.instance) numbers in
    let host : w.numbers.host ≡ v.numbers.host = ap (λ (n : Numbers). n.host) numbers in
    record {
      room = λ more room. record {
        commits = (let r = room.commits in omega (arith, r, commits));
        instances = (let r = room.instances in omega (arith, r, instance));
        hosts = (let r = room.hosts in omega (arith, r, host));
      };
      updates = updates;
      resolutions = resolutions;
    }

-- ---- deferrals

-- the machine stands for the state after a deferral
pub deferred_stands : (p : Program) (s : State) (g : Progress) (counts : Counts) (waits : Awaits) (v new : Plained) (x : Going) → StandsWith p s (Some g) (record v { going = Some x }) → v.going ≡ None
    → IsReached p (deferred_as s g counts waits).after → new ≡ record v { schedule = schedule_deferred s g waits } → StandsFor p (deferred_as s g counts waits).after new
deferred_stands p s g counts waits v new x h idle reached is =
    let t : State = (deferred_as s g counts waits).after in
    subst (λ (w : Plained). StandsFor p t w) (sym is)
    (record {
      reached = reached;
      tree = h.tree;
      keeps = all_stay s t refl refl p (kept_hooks v.hooks) (kept_hooks v.hooks) refl (λ n. refl) h.keeps;
      below = h.below;
      evaluated = h.evaluated;
      schedule = refl;
      commits = h.commits;
      seen = h.seen;
      updates = h.updates;
      resolutions = h.resolutions;
      resources = h.resources;
      now = h.now;
      event = h.event;
      numbers = h.numbers;
      passive = h.passive;
      declared = h.declared;
      progress = subst (λ (o : Option Going). HasProgress p t None o) (sym idle) tt;
    })

-- and its line is written
pub deferred_written : (log new : Written) (lanes : Lanes) (g : Progress) (counts : Counts) → new ≡ with_line log (deferred (lanes_where (has lanes)) counts) → lanes ≡ g.lanes → IsSet g.lanes
    → new ≡ with_lines log (deferred g.lanes counts ∷ [])
deferred_written log new lanes g counts e same set =
    e
    ∙ ap (λ (ls : Lanes). with_line log (deferred (lanes_where (has ls)) counts)) same
    ∙ ap (λ (ls : Lanes). with_line log (deferred ls counts)) (sym set)
    ∙ sym (with_lines-one log (deferred g.lanes counts))

-- ---- commits

-- what a commit of the lane Sync writes and leaves
module _ (s : State) (g : Progress) (counts : Counts) (fixed : Numbers × Node) where
  abbrev st : State
  st = committed_state s g fixed

  pub sync_written : (r a b : Written) (passive : Passive) → has g.lanes lane.Sync ≡ true → passive ≡ passive_of (compare_trees s.tree fixed.1)
      → a ≡ with_lines r (commit_lines s g counts fixed.1) → b ≡ with_lines a (map logged (passive_log passive)) → b ≡ with_lines r (committed_as s g counts fixed).lines
  sync_written r a b passive sync is own more =
      more
      ∙ (λ i. with_lines (own i) (map logged (passive_log (is i))))
      ∙ sym (with_lines-append r (commit_lines s g counts fixed.1) (map logged (passive_log st.passive)))
      ∙ ap (λ (c : Bool). with_lines r (commit_lines s g counts fixed.1 ++ (cond c (passive_run st) (silent st)).lines)) (sym sync)

-- the machine after a commit
abbrev pub plain_committed : State → Progress → Numbers × Node → hooks.Kept → Passive → Plained → Plained
plain_committed s g fixed store passive v =
    record v {
      tree = Some (trimmed fixed.1);
      hooks = store;
      schedule = after_commit v.schedule g.lanes (still_pending g.lanes g.cut s.journal fixed.1) v.now;
      commits = v.commits + 1;
      seen = g.cut.resolutions;
      resources = map (committed g.lanes g.cut) v.resources;
      numbers = fixed.0;
      passive = passive;
    }

-- it stands for the state after it, with these passive effects pending
committed_with : (p : Program) (s : State) (g : Progress) (tree : Node) (passive : Passive) (store : hooks.Kept) (v : Plained) (x : Going) → StandsWith p s (Some g) (record v { going = Some x }) → v.going ≡ None
    → IsReached p (record (committed_state s g (numbered s.numbers tree)) { passive = passive }) → KeepsAllHooks p (committed_state s g (numbered s.numbers tree)) (kept_hooks store)
    → StandsFor p (record (committed_state s g (numbered s.numbers tree)) { passive = passive }) (plain_committed s g (numbered s.numbers tree) store passive v)
committed_with p s g tree passive store v x h idle reached keeps =
    let st : State = committed_state s g (numbered s.numbers tree) in
    record {
      reached = reached;
      tree = refl;
      keeps = all_stay st (record st { passive = passive }) refl refl p (kept_hooks store) (kept_hooks store) refl (λ n. refl) keeps;
      below = links_committed s g tree h.below;
      evaluated = h.evaluated;
      schedule = rw (h.schedule, h.now) refl;
      commits = rw h.commits refl;
      seen = refl;
      updates = h.updates ∙ sym (length-map s.journal.updates _);
      resolutions = h.resolutions;
      resources = commit_stays p s.journal s.linked v.resources g.lanes g.cut (numbered s.numbers tree).1 h.progress.done h.resources;
      now = h.now;
      event = h.event;
      numbers = refl;
      passive = refl;
      declared = commit_declared p s.journal g.lanes g.cut (numbered s.numbers tree).1 h.declared;
      progress = subst (λ (o : Option Going). HasProgress p (record st { passive = passive }) None o) (sym idle) tt;
    }

-- the machine stands for the state after a commit
pub committed_stands : (p : Program) (s : State) (g : Progress) (counts : Counts) (tree : Node) (store : hooks.Kept) (v new : Plained) (x : Going) → StandsWith p s (Some g) (record v { going = Some x }) → v.going ≡ None
    → IsReached p (committed_as s g counts (numbered s.numbers tree)).after → KeepsAllHooks p (committed_state s g (numbered s.numbers tree)) (kept_hooks store)
    → new ≡ plain_committed s g (numbered s.numbers tree) store (committed_as s g counts (numbered s.numbers tree)).after.passive v → StandsFor p (committed_as s g counts (numbered s.numbers tree)).after new
committed_stands p s g counts tree store v new x h idle reached keeps is =
    subst (λ (w : Plained). StandsFor p (committed_as s g counts (numbered s.numbers tree)).after w) (sym is) (by_sync (has g.lanes lane.Sync) reached)
  where
    st : State
    st = committed_state s g (numbered s.numbers tree)

    by_sync : (b : Bool) → IsReached p (cond b (passive_run st) (silent st)).after
        → StandsFor p (cond b (passive_run st) (silent st)).after (plain_committed s g (numbered s.numbers tree) store (cond b (passive_run st) (silent st)).after.passive v)
    by_sync true reached = committed_with p s g tree no_passive store v x h idle reached keeps
    by_sync false reached = committed_with p s g tree st.passive store v x h idle reached keeps

-- the hooks can be settled
pub settling_of : (p : Program) (s : State) (g : Progress) (x : Node) (v : Plained) (y : Going) (old : Option Node) (new : Node) (first : ℕ) (store : hooks.Kept) → IsBounded p → StandsWith p s (Some g) (record v { going = Some y })
    → fresh (sight_of p s g) s.tree ≡ made x → old ≡ v.tree → store ≡ v.hooks → new ≡ trimmed (numbered s.numbers x).1 → first ≡ v.numbers.instance
    → IsSettlingOf p (kept_hooks store) old new first y.lanes y.cut s g x
settling_of p s g x v y old new first store bounded h gives is_old is_store is_new is_first =
    record {
      bounded = bounded;
      reached = h.reached;
      gives = gives;
      done = h.progress.done;
      links = h.below;
      keeps = subst (λ (k : hooks.Kept). KeepsAllHooks p s (kept_hooks k)) (sym is_store) h.keeps;
      old_is = is_old ∙ h.tree;
      new_is = is_new;
      first_is = is_first ∙ ap (λ (m : Numbers). m.instance) h.numbers;
      lanes_are = h.progress.lanes;
      cut_is = h.progress.cut;
    }

-- what is known of the time since the render began
pub knows_since : (p : Program) (s : State) (g : Progress) (v w : Plained) (y : Going) → StandsWith p s (Some g) (record v { going = Some y }) → w.resources ≡ v.resources → KnowsSince p s g y w
knows_since p s g v w y h same =
    record {
      resources = subst (λ (ks : List Kept). KeepsResources p s.journal s.linked ks) (sym same) h.resources;
      declared = h.declared;
      goes_on = h.progress;
    }

-- the end of a render, by what becomes of it
pub ended_as : (p : Program) (s : State) (g : Progress) (counts : Counts) (tree : Node) (o : Outcome) (v : Plained) (log new : Written) → o ≡ outcome g.lanes s.tree tree
    → (IsReached p (ended_by s g counts o).after → HasDone p (ended_by s g counts o) v log new) → IsReached p (ended s g counts tree).after → HasDone p (ended s g counts tree) v log new
ended_as p s g counts tree o v log new is goes reached =
    subst (λ (x : Outcome). HasDone p (ended_by s g counts x) v log new) is (goes (subst (λ (x : Outcome). IsReached p (ended_by s g counts x).after) (sym is) reached))

-- the steps of a commit make of the machine what it is after it
pub committed_is : (s : State) (g : Progress) (fixed : Numbers × Node) (v one two three y : Plained) (x : Going) (passive : Passive) (kept : List Kept) (schedule : Schedule) (still : Lanes) (next : Node)
    → one ≡ record v { numbers = fixed.0 } → two ≡ record one { passive = passive } → three ≡ record two { hooks = three.hooks } → y ≡ three
    → kept ≡ map (committed x.lanes x.cut) y.resources → schedule ≡ after_commit y.schedule x.lanes still y.now → x.lanes ≡ g.lanes → x.cut ≡ g.cut
    → still ≡ still_pending g.lanes g.cut s.journal fixed.1 → next ≡ trimmed fixed.1
    → record y { tree = Some next; resources = kept; schedule = schedule; commits = y.commits + 1; seen = x.cut.resolutions } ≡ plain_committed s g fixed three.hooks passive v
committed_is s g fixed v one two three y x passive kept schedule still next a b c d keeps schedules lanes cut pending new =
    let y_is : y ≡ record v { numbers = fixed.0; passive = passive; hooks = three.hooks } =
    d ∙ c ∙ ap (λ (w : Plained). record w { hooks = three.hooks }) (b ∙ ap (λ (w : Plained). record w { passive = passive }) a) in
    let kept_is : kept ≡ map (committed g.lanes g.cut) v.resources = keeps ∙ (λ i. map (committed (lanes i) (cut i)) (y_is i).resources) in
    let schedule_is : schedule ≡ after_commit v.schedule g.lanes (still_pending g.lanes g.cut s.journal fixed.1) v.now =
    schedules ∙ (λ i. after_commit (y_is i).schedule (lanes i) (pending i) (y_is i).now) in
    (λ i. record (y_is i) { tree = Some (new i); resources = kept_is i; schedule = schedule_is i; commits = (y_is i).commits + 1; seen = (cut i).resolutions })

-- the room that is left is left of a machine with the same numbers
pub leaves_same : (v w new : Plained) → w.numbers ≡ v.numbers → w.commits ≡ v.commits → w.updates ≡ v.updates → w.resolutions ≡ v.resolutions → LeavesRoom 1 w new → LeavesRoom 1 v new
leaves_same v w new numbers commits updates resolutions h =
    let instance : w.numbers.instance ≡ v.numbers.instance = ap (λ (n : Numbers). n.instance) numbers in
    let host : w.numbers.host ≡ v.numbers.host = ap (λ (n : Numbers). n.host) numbers in
    record {
      room = λ more room. h.room more (record {
        commits = (let r = room.commits in omega (arith, r, commits));
        instances = (let r = room.instances in omega (arith, r, instance));
        hosts = (let r = room.hosts in omega (arith, r, host));
      });
      updates = h.updates ∙ updates;
      resolutions = h.resolutions ∙ resolutions;
    }
