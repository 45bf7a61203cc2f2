-- A root stands for the state after a commit.
use Rattle.std.proofs.Common.{◌≡◌, ℕ, ◌+◌, Bool, true, false, cond, List, [], ◌++◌, map, refl, sym, ap, ◌∙◌, subst, Some}
use Rattle.std.proofs.lemmas.List.{length-map}
use Rattle.rx_lane.specs.declared.lane.Lane.TheVariants as lane
use Rattle.rx_lane.specs.Lanes.{Lanes, has, lanes_where}
use Rattle.rx_ast.specs.Syntax.{Program}
use Rattle.rx_elem.specs.Trees.{Node}
use Rattle.rx_elem.specs.Numbers.{Numbers, numbered}
use Rattle.rx_elem.specs.Compare.{compare_trees}
use Rattle.rx_check.specs.Accepted.{IsAccepted}
use Rattle.rx_sched.specs.Schedule.{Schedule, after_commit}
use Rattle.rx_meaning.specs.Outcome.{still_pending}
use Rattle.rx_effect.specs.EffectLog.{Passive, no_passive, passive_of}
use Rattle.rx_lines.specs.Lines.{Line, Counts, Written}
use Rattle.rx_model.specs.State.{State, Progress}
use Rattle.rx_model.specs.Stretch.{silent}
use Rattle.rx_model.specs.HooksOf.{KeepsAllHooks}
use Rattle.rx_model.specs.Committing.{sight_of, passive_run, commit_lines, committed_state, committed_as}
use Rattle.rx_model.specs.Laws.{IsBounded, IsReached}
use Rattle.commit_laws.proofs.HiddenLaw.{numbering_numbers}
use Rattle.end_laws.specs.Trimmed.{trimmed, trimmed_if}
use Rattle.rx_pruned.specs.Besides.{IsBeside}
use Rattle.rx_pruned.specs.declared.beside.Beside.{Beside}
use Rattle.rx_lists.specs.Shapes as shapes
use Rattle.rx_links.specs.Drafts.{grafted, taken}
use Rattle.rx_fiber.specs.Reading.{IsTreeOf}
use Rattle.rx_read.specs.Numbering.{IsAllNumbered}
use Rattle.rx_hook_store.specs.Store.{kept_hooks}
use Rattle.rx_hook_store.proofs.Staying.{all_stay}
use Rattle.rx_hook_store.proofs.Numbered.{links_committed}
use Rattle.rx_commit.specs.Shown.{Shown, Shows}
use Rattle.rx_commit.specs.Written.{lines_of}
use Rattle.rx_writing.specs.Written.{passive_lines, with_lines}
use Rattle.rx_settle.specs.Settling.{IsSettlingOf}
use Rattle.rx_render.specs.declared.at.At.TheVariants.{Over}
use Rattle.rx_render.specs.Rendering.{Rendering, HasNoRender}
use Rattle.rx_render.specs.Renders.{with_hooks}
use Rattle.rx_render.specs.Settling.{IsAtHand}
use Rattle.rx_root.specs.Rooted.{Rooted}
use Rattle.rx_root.specs.Stands.{StandsBy, Stands}
use Rattle.rx_meaning.specs.Settled.{DoneBefore, known_by}
use Rattle.rx_resources.specs.Kept.{Kept, committed}
use Rattle.rx_kept.proofs.Resources.{commit_declared, commit_stays}
use Rattle.prune_laws.proofs.Present.{if_settled_present}
use Rattle.rx_root.specs.Turning.{IsAtEndOf, StandsAtEnd, KnowsSince, HasNumbered, CanFollow, counts_of, passive_left}
use Rattle.rx_root.proofs.CommitReady.{is_commit}

-- a root after a commit of a tree whose new nodes have their numbers
abbrev pub after_commit_of : State → Progress → Node → Rendering → Shown → Rooted → Rooted
after_commit_of s g tree w shown v =
    record v {
      rendering = w;
      shown = shown;
      schedule = after_commit v.schedule g.lanes (still_pending g.lanes g.cut s.journal (numbered s.numbers tree).1) v.now;
      commits = v.commits + 1;
      resources = map (committed g.lanes g.cut) v.resources;
      numbers = (numbered s.numbers tree).0;
    }

-- what the parts of a root promise of a commit
pub record IsCommitted (p : Program) (s : State) (g : Progress) (tree : Node) (w : Rendering) : Type 0 where
  pub program : w.program ≡ p
  pub current : IsTreeOf (Some (numbered s.numbers tree).1) w.trees.current
  pub seen : w.seen ≡ g.cut.resolutions
  pub numbered_all : IsAllNumbered w.trees
  pub keeps : KeepsAllHooks p (committed_state s g (numbered s.numbers tree)) (kept_hooks w.hooks)
  pub idle : HasNoRender w

-- the state after a commit, with these passive effects pending
committed_with : (p : Program) (s : State) (asks : Rooted → Type 0) (g : Progress) (tree : Node) (passive : Passive) (v : Rooted) (w : Rendering) (shown : Shown)
    → StandsBy p s asks v → DoneBefore g.cut s.journal.updates → IsReached p (record (committed_state s g (numbered s.numbers tree)) { passive = passive }) → IsCommitted p s g tree w
    → Shows (Some (numbered s.numbers tree).1) passive shown
    → Stands p (record (committed_state s g (numbered s.numbers tree)) { passive = passive }) (after_commit_of s g tree w shown v)
committed_with p s asks g tree passive v w shown h done reached c shows =
    let st : State = committed_state s g (numbered s.numbers tree) in
    record {
      reached = reached;
      program = c.program;
      current = c.current;
      seen = c.seen;
      numbered = c.numbered_all;
      keeps = all_stay st (record st { passive = passive }) refl refl p (kept_hooks w.hooks) (kept_hooks w.hooks) refl (λ n. refl) c.keeps;
      below = links_committed s g tree h.below;
      shows = shows;
      schedule = rw (h.schedule, h.now) refl;
      commits = rw h.commits refl;
      updates = h.updates ∙ sym (length-map s.journal.updates _);
      resolutions = h.resolutions;
      resources = commit_stays p s.journal s.linked v.resources g.lanes g.cut (numbered s.numbers tree).1 done h.resources;
      now = h.now;
      event = h.event;
      numbers = refl;
      declared = commit_declared p s.journal g.lanes g.cut (numbered s.numbers tree).1 h.declared;
      progress = c.idle;
    }

-- a commit, with its passive effects if it runs them itself
pub committed_stands : (p : Program) (s : State) (asks : Rooted → Type 0) (g : Progress) (counts : Counts) (tree : Node) (v : Rooted) (w : Rendering) (shown : Shown)
    → StandsBy p s asks v → DoneBefore g.cut s.journal.updates → IsReached p (committed_as s g counts (numbered s.numbers tree)).after → IsCommitted p s g tree w
    → Shows (Some (numbered s.numbers tree).1) (passive_left g.lanes (passive_of (compare_trees s.tree (numbered s.numbers tree).1))) shown
    → Stands p (committed_as s g counts (numbered s.numbers tree)).after (after_commit_of s g tree w shown v)
committed_stands p s asks g counts tree v w shown h done reached c shows = by_sync (has g.lanes lane.Sync) reached shows
  where
    st : State
    st = committed_state s g (numbered s.numbers tree)

    by_sync : (b : Bool) → IsReached p (cond b (passive_run st) (silent st)).after → Shows (Some (numbered s.numbers tree).1) (cond b no_passive st.passive) shown
        → Stands p (cond b (passive_run st) (silent st)).after (after_commit_of s g tree w shown v)
    by_sync true reached shows = committed_with p s asks g tree no_passive v w shown h done reached c shows
    by_sync false reached shows = committed_with p s asks g tree st.passive v w shown h done reached c shows

-- the lines of a commit, with those of its passive effects if it runs them itself
pub committed_lines : (s : State) (g : Progress) (counts : Counts) (tree : Node)
    → lines_of (s.commits + 1) g.lanes counts s.tree (numbered s.numbers tree).1 ≡ (committed_as s g counts (numbered s.numbers tree)).lines
committed_lines s g counts tree = by_sync (has g.lanes lane.Sync)
  where
    st : State
    st = committed_state s g (numbered s.numbers tree)

    own : List Line
    own = commit_lines s g counts (numbered s.numbers tree).1

    by_sync : (b : Bool) → own ++ cond b (passive_lines st.passive) [] ≡ own ++ (cond b (passive_run st) (silent st)).lines
    by_sync true = refl
    by_sync false = refl

-- The steps of a commit

module _ (p : Program) (s : State) (g : Progress) (tree : Node) (v x : Rooted) (h : StandsAtEnd p s g tree v) (n : HasNumbered p s g tree v x) where
  -- numbers change nothing of what is known
  pub numbered_knows : KnowsSince p s g x
  numbered_knows = subst (λ (y : Rooted). KnowsSince p s g y) (sym n.rest) (record {
    program = h.program;
    resources = h.resources;
    seen = h.progress.renders.resources;
    lanes = h.progress.renders.lanes;
    declared = h.declared;
    later = h.progress.later;
  })

  pub numbered_over : x.rendering.at ≡ Over
  numbered_over = ap (λ (y : Rooted). y.rendering.at) n.rest ∙ h.progress.over

  module _ (bounded : IsBounded p) (b : Beside) (beside : IsBeside (trimmed_if s.tree) (trimmed (numbered s.numbers tree).1) b) where
    -- the hooks can be settled
    pub at_hand_of : (first : ℕ) → first ≡ v.numbers.instance → IsAtHand s g tree first b x.rendering
    at_hand_of first is_first = record {
      to_settle = record {
        current = subst (λ (y : Rooted). IsTreeOf s.tree y.rendering.trees.current) (sym n.rest) h.current;
        finished = n.there;
        settling = subst (λ (q : Program). IsSettlingOf q (kept_hooks x.rendering.hooks) (trimmed_if s.tree) (trimmed (numbered s.numbers tree).1) first x.rendering.lanes x.rendering.cut s g tree)
            (sym numbered_knows.program) (record {
              bounded = bounded;
              reached = h.reached;
              gives = h.progress.gives;
              done = h.progress.renders.done;
              links = h.below;
              keeps = subst (λ (y : Rooted). KeepsAllHooks p s (kept_hooks y.rendering.hooks)) (sym n.rest) h.keeps;
              old_is = refl;
              new_is = refl;
              first_is = is_first ∙ ap (λ (m : Numbers). m.instance) h.numbers;
              lanes_are = numbered_knows.lanes;
              cut_is = ap (λ (y : Rooted). y.rendering.cut) n.rest ∙ h.progress.renders.cut;
            });
      };
      beside = beside;
    }

    -- and the tree can be shown
    pub follows_of : IsAccepted p → CanFollow s.tree s.passive (numbered s.numbers tree).1 b x
    follows_of accepted =
        let commits = is_commit p bounded accepted s g tree h.reached h.progress.gives in
        record {
          shows = subst (λ (y : Rooted). Shows s.tree s.passive y.shown) (sym n.rest) h.shows;
          there = n.there;
          beside = beside;
          present = if_settled_present p (known_by (sight_of p s g)) s.tree h.progress.renders.settled;
          commits = commits.0;
          leaves = commits.1;
        }

-- what the parts of a root did at a commit, once its new nodes had their numbers: its hooks are settled, the tree is shown, it is the current one, and its lanes are finished
pub record HasCommitted (s : State) (g : Progress) (tree : Node) (x : Rooted) (w : Rendering) (shown : Shown) (y : Rooted) (last : Rendering) (schedule : Schedule) (kept : List Kept) : Type 0 where
  pub settled : w ≡ with_hooks x.rendering w.hooks
  pub is_shown : y ≡ record x { rendering = w; shown = shown; commits = x.commits + 1 }
  pub is_last : last ≡ record y.rendering { trees = record { current = grafted y.rendering.trees.draft; draft = taken shapes.none }; at = Over; seen = y.rendering.cut.resolutions }
  pub lanes : Lanes
  pub still : Lanes
  pub is_schedule : schedule ≡ after_commit y.schedule lanes still y.now
  pub lanes_are : lanes ≡ g.lanes
  pub is_kept : kept ≡ map (committed g.lanes g.cut) y.resources
  pub still_is : still ≡ still_pending g.lanes g.cut s.journal (numbered s.numbers tree).1

module _ (p : Program) (s : State) (g : Progress) (tree : Node) (v x : Rooted) (h : StandsAtEnd p s g tree v) (n : HasNumbered p s g tree v x) (w : Rendering) (shown : Shown) (y : Rooted)
    (last : Rendering) (schedule : Schedule) (kept : List Kept) (c : HasCommitted s g tree x w shown y last schedule kept) where
  -- the rendering at the end
  last_is : last ≡ record (with_hooks x.rendering w.hooks) { trees = record { current = grafted x.rendering.trees.draft; draft = taken shapes.none }; at = Over; seen = x.rendering.cut.resolutions }
  last_is =
      c.is_last
      ∙ ap (λ (z : Rooted). record z.rendering { trees = record { current = grafted z.rendering.trees.draft; draft = taken shapes.none }; at = Over; seen = z.rendering.cut.resolutions }) c.is_shown
      ∙ ap (λ (z : Rendering). record z { trees = record { current = grafted z.trees.draft; draft = taken shapes.none }; at = Over; seen = z.cut.resolutions }) c.settled

  last_committed : KeepsAllHooks x.rendering.program (committed_state s g (numbered s.numbers tree)) (kept_hooks w.hooks) → IsCommitted p s g tree last
  last_committed keeps =
      subst (λ (z : Rendering). IsCommitted p s g tree z) (sym last_is) (record {
        program = ap (λ (z : Rooted). z.rendering.program) n.rest ∙ h.program;
        current = n.there;
        seen = ap (λ (z : Rooted). z.rendering.cut.resolutions) n.rest ∙ ap (λ k. k.resolutions) h.progress.renders.cut;
        numbered_all = (Some (numbered s.numbers tree).1, n.there, numbering_numbers s.numbers tree);
        keeps = subst (λ (q : Program). KeepsAllHooks q (committed_state s g (numbered s.numbers tree)) (kept_hooks w.hooks)) (ap (λ (z : Rooted). z.rendering.program) n.rest ∙ h.program) keeps;
        idle = record { over = refl; empty = refl };
      })

  schedule_is : schedule ≡ after_commit v.schedule g.lanes (still_pending g.lanes g.cut s.journal (numbered s.numbers tree).1) v.now
  schedule_is =
      c.is_schedule
      ∙ ap (λ (z : Rooted). after_commit z.schedule c.lanes c.still z.now) (c.is_shown ∙ ap (λ (z : Rooted). record z { rendering = w; shown = shown; commits = z.commits + 1 }) n.rest)
      ∙ ap (λ (ls : Lanes). after_commit v.schedule ls c.still v.now) c.lanes_are
      ∙ ap (λ (ls : Lanes). after_commit v.schedule g.lanes ls v.now) c.still_is

  kept_is : kept ≡ map (committed g.lanes g.cut) v.resources
  kept_is =
      c.is_kept ∙ ap (λ (z : Rooted). map (committed g.lanes g.cut) z.resources) (c.is_shown ∙ ap (λ (z : Rooted). record z { rendering = w; shown = shown; commits = z.commits + 1 }) n.rest)

  root_is : record y { rendering = last; schedule = schedule; resources = kept } ≡ after_commit_of s g tree last shown v
  root_is =
      ap (λ (z : Rooted). record z { rendering = last; schedule = schedule; resources = kept })
      (c.is_shown ∙ ap (λ (z : Rooted). record z { rendering = w; shown = shown; commits = z.commits + 1 }) n.rest)
      ∙ ap (λ (m : Numbers). record v { rendering = last; shown = shown; schedule = schedule; resources = kept; commits = v.commits + 1; numbers = m }) n.next
      ∙ ap (λ (ks : List Kept). record v { rendering = last; shown = shown; schedule = schedule; resources = ks; commits = v.commits + 1; numbers = (numbered s.numbers tree).0 }) kept_is
      ∙ ap (λ (sch : Schedule). record v { rendering = last; shown = shown; schedule = sch; resources = map (committed g.lanes g.cut) v.resources; commits = v.commits + 1; numbers = (numbered s.numbers tree).0 }) schedule_is

  -- so the root stands for the state after the commit
  pub commit_stands : (counts : Counts) → IsReached p (committed_as s g counts (numbered s.numbers tree)).after
      → KeepsAllHooks x.rendering.program (committed_state s g (numbered s.numbers tree)) (kept_hooks w.hooks)
      → Shows (Some (numbered s.numbers tree).1) (passive_left w.lanes (passive_of (compare_trees s.tree (numbered s.numbers tree).1))) shown
      → Stands p (committed_as s g counts (numbered s.numbers tree)).after (record y { rendering = last; schedule = schedule; resources = kept })
  commit_stands counts reached keeps shows =
      let lanes : w.lanes ≡ g.lanes = ap (λ (z : Rendering). z.lanes) c.settled ∙ ap (λ (z : Rooted). z.rendering.lanes) n.rest ∙ h.progress.renders.lanes in
      let shows_it =
      subst (λ (ls : Lanes). Shows (Some (numbered s.numbers tree).1) (passive_left ls (passive_of (compare_trees s.tree (numbered s.numbers tree).1))) shown) lanes shows in
      subst (λ (z : Rooted). Stands p (committed_as s g counts (numbered s.numbers tree)).after z) (sym root_is)
      (committed_stands p s (IsAtEndOf p s g tree) g counts tree v last shown h h.progress.renders.done reached (last_committed keeps) shows_it)

module _ (p : Program) (s : State) (g : Progress) (tree : Node) (v x : Rooted) (h : StandsAtEnd p s g tree v) (n : HasNumbered p s g tree v x) where
  -- and its lines are written
  pub commit_written : (log new : Written) → new ≡ with_lines log (lines_of (x.commits + 1) (lanes_where (has x.rendering.lanes)) (counts_of x) s.tree (numbered s.numbers tree).1)
      → new ≡ with_lines log (committed_as s g (counts_of v) (numbered s.numbers tree)).lines
  commit_written log new e =
      let lanes : x.rendering.lanes ≡ g.lanes = ap (λ (z : Rooted). z.rendering.lanes) n.rest ∙ h.progress.renders.lanes in
      let set : lanes_where (has x.rendering.lanes) ≡ g.lanes = ap (λ (ls : Lanes). lanes_where (has ls)) lanes ∙ sym h.progress.lanes_are_set in
      let commits : x.commits ≡ s.commits = ap (λ (z : Rooted). z.commits) n.rest ∙ h.commits in
      let counts : counts_of x ≡ counts_of v = ap (λ (z : Rooted). counts_of z) n.rest in
      e
      ∙ ap (λ (k : ℕ). with_lines log (lines_of (k + 1) (lanes_where (has x.rendering.lanes)) (counts_of x) s.tree (numbered s.numbers tree).1)) commits
      ∙ ap (λ (ls : Lanes). with_lines log (lines_of (s.commits + 1) ls (counts_of x) s.tree (numbered s.numbers tree).1)) set
      ∙ ap (λ (k : Counts). with_lines log (lines_of (s.commits + 1) g.lanes k s.tree (numbered s.numbers tree).1)) counts
      ∙ ap (λ (ls : List Line). with_lines log ls) (committed_lines s g (counts_of v) tree)
