-- The first flush of a script: its first commit is the same for all scripts.
use Rattle.std.specs.List.{AllByRecursion, cons_option}
use Rattle.std.specs.Prelude.{List, None, Option, Some, [], refl, slice_get, suc, zero, ℕ, ◌++◌, ◌∷◌, ◌≡◌, ◌≤◌}
use Rattle.std.proofs.Common.{ap, inl, inr, subst, sym, ◌∙◌}
use Rattle.rx_ast.specs.Syntax.{Program}
use Rattle.rx_rules.specs.Bounds.{depth_bound}
use Rattle.rx_rules.specs.Reads.{ReadsDeclared}
use Rattle.rx_elem.specs.Compare.{Change}
use Rattle.rx_elem.specs.Numbers.{numbered}
use Rattle.rx_elem.specs.Spots.{Mounted, mounted}
use Rattle.rx_elem.specs.Trees.{Node}
use Rattle.rx_lane.specs.Lanes.{lanes_where}
use Rattle.rx_sched.specs.Deadlines.{timed}
use Rattle.rx_sched.specs.Links.{linked_by, links_among, one_link_on, links_on}
use Rattle.rx_lane.specs.declared.lane.Lane.TheVariants as lane
use Rattle.rx_lines.specs.Lines.{Counts, Line}
use Rattle.rx_meaning.specs.Fresh.{depth_limit, fresh, made}
use Rattle.rx_meaning.specs.Outcome.{Outcome, commit, newly_hidden, outcome, outcome_by}
use Rattle.rx_model.specs.Accepting.{between_events}
use Rattle.rx_model.specs.Committing.{ended, ended_by, passive_run, sight_of, starting}
use Rattle.rx_model.proofs.Reached.{start-reached, step-reached}
use Rattle.rx_model.specs.Laws.{IsReached}
use Rattle.rx_model.specs.Machine.{IsAtRest, Flushes, RunTo}
use Rattle.rx_model.specs.State.{Progress, State, opening}
use Rattle.rx_model.specs.Stretch.{Stretch, followed_by}
use Rattle.rx_model.specs.Turns.{AnyRender, GoesOn, Starts, Turn, choice_of}
use Rattle.rx_queue.specs.Journal.{Target}
use Rattle.rx_queue.specs.declared.update.Op.{Op}
use Rattle.rx_step.specs.declared.step.Step.{Step}
use Rattle.rx_step.specs.declared.step.Step.TheVariants as step
use Rattle.run_laws.proofs.AlongRuns.{opening_carries, turn_keeps}
use Rattle.run_laws.specs.Carried.{IsCarried}
use Rattle.sync_laws.proofs.SameValues.{sent}
use Rattle.sync_laws.proofs.Sending.{HasInstances, Mounts, flushes_stay, resolves, run_sends, sends, trees_first, trees_last}
use Rattle.sync_laws.specs.Sync.{tree_of, trees_of}

-- the state in which the first flush begins, and the render that it starts
abbrev pub begun : State
begun = (passive_run (between_events opening)).after

abbrev pub first_render : Progress
first_render = starting (between_events opening) (lane.Default ∷ [])

-- the tree of the first commit, if the first render gives this
abbrev pub first_tree : Node → Node
first_tree tree = (numbered opening.numbers tree).1

-- The first render is committed: nothing was shown before it that it could hide, and its lane is no transition.
first_is_commit : (tree : Node) → outcome (lane.Default ∷ []) None tree ≡ commit tree
first_is_commit tree = go (newly_hidden None tree)
  where
    go : (cs : List Change) → outcome_by (lane.Default ∷ []) tree cs ≡ commit tree
    go [] = refl
    go (c ∷ cs) = refl

-- what a stretch that begins with the first commit is like
record Begins (p : Program) (r : Stretch) : Type 0 where
  pub tree : Node
  pub gives : fresh (sight_of p begun first_render) None ≡ made tree
  pub first : slice_get (trees_of r.lines) 0 ≡ Some (first_tree tree)
  pub shown : r.after.tree ≡ Some (first_tree tree)
  pub nothing_sent : sent r.after.journal.updates ≡ []
  pub nothing_resolved : r.after.journal.resolutions ≡ []

commit_begins : (p : Program) (counts : Counts) (tree : Node) → fresh (sight_of p begun first_render) None ≡ made tree → Begins p (ended begun first_render counts tree)
commit_begins p counts tree gives =
    subst (λ (o : Outcome). Begins p (ended_by begun first_render counts o)) (sym (first_is_commit tree))
    (record { tree = tree; gives = gives; first = refl; shown = refl; nothing_sent = refl; nothing_resolved = refl })

going_begins : (p : Program) (r : Stretch) → GoesOn AnyRender p begun first_render None r → Begins p r
going_begins p r (inl f, _) = subst (Begins p) (sym f.stretch_is) (commit_begins p f.counts f.tree f.rendered)
going_begins p r (inr y, _) = absurd (cc y.sliced)

turn_begins : (p : Program) (r : Stretch) → Turn AnyRender p (between_events opening) None r → Begins p r
unfolding lanes_where linked_by links_among one_link_on links_on timed
turn_begins p r t = go t
  where
    go : Starts AnyRender p (between_events opening) (lane.Default ∷ []) None r → Begins p r
    go starts = subst (Begins p) (sym starts.stretch_is) (from starts.rest (going_begins p starts.rest starts.begins))
      where
        from : (q : Stretch) → Begins p q → Begins p (followed_by (passive_run (between_events opening)) q)
        from q b = record { tree = b.tree; gives = b.gives; first = b.first; shown = b.shown; nothing_sent = b.nothing_sent; nothing_resolved = b.nothing_resolved }

-- What a steady run comes to: a tree with the instances of the first one, and all that its script sends to these and resolves.
pub record Comes (p : Program) (xs : List Step) (r : Stretch) : Type 0 where
  pub tree : Node
  pub gives : fresh (sight_of p begun first_render) None ≡ made tree
  pub first : slice_get (trees_of r.lines) 0 ≡ Some (first_tree tree)
  pub ends : AllByRecursion (HasInstances (mounted (Some (first_tree tree)))) (trees_of r.lines)
      → Mounts (mounted (Some (first_tree tree))) r.after
      × (sent r.after.journal.updates ≡ sends p (mounted (Some (first_tree tree))) xs)
      × (r.after.journal.resolutions ≡ resolves p (mounted (Some (first_tree tree))) xs [] [])

pub first_before : (xs ys : List Line) (n : Node) → slice_get (trees_of xs) 0 ≡ Some n → slice_get (trees_of (xs ++ ys)) 0 ≡ Some n
first_before [] ys n h = absurd (cc h)
first_before (x ∷ xs) ys n h = go (tree_of x) h (first_before xs ys n)
  where
    go : (o : Option Node) → slice_get (cons_option o (trees_of xs)) 0 ≡ Some n → (slice_get (trees_of xs) 0 ≡ Some n → slice_get (trees_of (xs ++ ys)) 0 ≡ Some n)
        → slice_get (cons_option o (trees_of (xs ++ ys))) 0 ≡ Some n
    go None k rest = rest k
    go (Some m) k rest = k

first_meets : (G : Node → Type 0) (ns : List Node) (n : Node) → slice_get ns 0 ≡ Some n → AllByRecursion G ns → G n
first_meets G [] n h all = absurd (cc h)
first_meets G (m ∷ ns) n h all = let same : m ≡ n = cc in subst G same all.0

module _ (p : Program) (deep : depth_bound p ≤ depth_limit) (declared : ReadsDeclared p) (xs : List Step) where
  -- the first commit, what else is flushed, and the other steps
  begins_comes : (first more rest : Stretch) (n : ℕ) → Begins p first → IsCarried p first.after → Flushes AnyRender IsAtRest n p first.after more → IsReached p more.after → RunTo AnyRender p more.after xs rest
      → Comes p xs (followed_by (followed_by first more) rest)
  begins_comes first more rest n begins carried flushes reached runs =
      record {
        tree = begins.tree;
        gives = begins.gives;
        first = first_before (first.lines ++ more.lines) rest.lines (first_tree begins.tree) (first_before first.lines more.lines (first_tree begins.tree) begins.first);
        ends = ends;
      }
    where
      all : List Mounted
      all = mounted (Some (first_tree begins.tree))

      ends : AllByRecursion (HasInstances all) (trees_of ((first.lines ++ more.lines) ++ rest.lines))
          → Mounts all rest.after × (sent rest.after.journal.updates ≡ sends p all xs) × (rest.after.journal.resolutions ≡ resolves p all xs [] [])
      ends good =
          let flushed = trees_first (HasInstances all) (first.lines ++ more.lines) rest.lines good in
          let like = first_meets (HasInstances all) (trees_of first.lines) (first_tree begins.tree) begins.first (trees_first (HasInstances all) first.lines more.lines flushed) in
          let stays = flushes_stay p deep declared all n first.after more flushes carried (first_tree begins.tree, begins.shown, refl, like.1)
          (trees_last (HasInstances all) first.lines more.lines flushed) in
          let later = run_sends p deep declared all more.after xs rest runs reached stays.0 (trees_last (HasInstances all) (first.lines ++ more.lines) rest.lines good) in (
            later.0,
            later.1 ∙ ap (λ (zs : List (Target × Op)). zs ++ sends p all xs) (stays.1 ∙ begins.nothing_sent),
            later.2 ∙ (λ i. resolves p all xs ((stays.1 ∙ begins.nothing_sent) i) ((stays.2 ∙ begins.nothing_resolved) i)),
          )

  -- each run of a script that begins with a flush comes to such a state, if it is steady
  pub run_comes : (r : Stretch) → RunTo AnyRender p opening (step.Flush ∷ xs) r → Comes p xs r
  unfolding lanes_where linked_by links_among one_link_on links_on timed
  run_comes r run =
      subst (Comes p xs) (sym run.4) (flushed run.0 run.1 run.2.0 run.2.2 (step-reached p opening step.Flush run.0 (start-reached p) run.2) run.3)
    where
      flushed : (first rest : Stretch) (n : ℕ) → Flushes AnyRender IsAtRest n p (between_events opening) first → IsReached p first.after → RunTo AnyRender p first.after xs rest → Comes p xs (followed_by first rest)
      flushed first rest zero t reached runs = absurd (cc t.0)
      flushed first rest (suc n) t reached runs =
          subst (λ (q : Stretch). Comes p xs (followed_by q rest)) (sym t.5)
          (begins_comes t.1 t.2 rest n (turn_begins p t.1 t.3) (turn_keeps p deep declared (between_events opening) (choice_of (between_events opening)) None t.1 t.3 (opening_carries p)) t.4
          (subst (λ (q : Stretch). IsReached p q.after) t.5 reached) (subst (λ (q : Stretch). RunTo AnyRender p q.after xs rest) t.5 runs))
