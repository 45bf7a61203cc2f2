-- Each state that can be reached has a tree of the program.
use Rattle.std.specs.Prelude.{◌≡◌, ℕ, Bool, true, false, cond, List, [], ◌∷◌, ℤ, Option, Some, None, IfSome, refl}
use Rattle.std.proofs.Common.{inl, inr, sym, subst}
use Rattle.rx_base.specs.Awaits.{Awaits}
use Rattle.rx_lane.specs.declared.lane.Lane.{Lane}
use Rattle.rx_lane.specs.declared.lane.Lane.TheVariants as lane
use Rattle.rx_lane.specs.Lanes.{has, only_transitions}
use Rattle.rx_ast.specs.Syntax.{Program}
use Rattle.rx_sched.specs.declared.choice.Choice.{Choice}
use Rattle.rx_sched.specs.declared.choice.Choice.TheVariants as choice
use Rattle.rx_elem.specs.Trees.{Node, element_of}
use Rattle.rx_elem.specs.Compare.{Change}
use Rattle.rx_elem.specs.Numbers.{numbered}
use Rattle.rx_queue.specs.Journal.{hook, resource}
use Rattle.rx_queue.specs.declared.update.Op.TheVariants as op
use Rattle.rx_meaning.specs.Fresh.{made, fresh, root_element, IsTree, none_yet, given}
use Rattle.rx_meaning.specs.Outcome.{commit, defer, outcome_by, newly_hidden}
use Rattle.rx_model.specs.State.{State, Progress}
use Rattle.rx_model.specs.Stretch.{Stretch, silent, followed_by}
use Rattle.rx_model.specs.Accepting.{resolved_as}
use Rattle.rx_model.specs.Committing.{passive_run, starting, sight_of, committed_state, ended_by}
use Rattle.rx_model.specs.Turns.{AnyRender, GoesOn, Continues, TurnBy, choice_of}
use Rattle.rx_model.specs.Kept.{TreeIsBounded, RendersAreBounded}
use Rattle.rx_model.specs.Laws.{IsBounded, IsReached}
use Rattle.rx_lines.specs.Lines.{Counts}
use Rattle.render_laws.proofs.Bounded.{tree_within}
use Rattle.run_laws.proofs.Walk.{holds_along, same_after, sent_tree}
use Rattle.run_laws.proofs.RenderBounds.{render_within}
use Rattle.commit_laws.proofs.QuietTree.{root_stays}

-- the tree of a state is one of the program
abbrev Holds : Program → State → Type 0
Holds p s = IsTree p s.tree

-- Resolutions change no tree

resolved_tree : (p : Program) (s : State) (name : List ℕ) (x : ℤ) (v : Option ℤ) → (resolved_as p s name x v).after.tree ≡ s.tree
resolved_tree p s name x None = refl
resolved_tree p s name x (Some y) = refl

-- The end of a render

sync_tree : (b : Bool) (s : State) → (cond b (passive_run s) (silent s)).after.tree ≡ s.tree
sync_tree true s = refl
sync_tree false s = refl

committed_holds : (p : Program) (s : State) (g : Progress) (counts : Counts) (tree : Node) → fresh (sight_of p s g) s.tree ≡ made tree → Holds p s
    → Holds p (ended_by s g counts (commit tree)).after
committed_holds p s g counts tree gives h =
    subst (λ (t : Option Node). IsTree p t) (sym (sync_tree (has g.lanes lane.Sync) (committed_state s g (numbered s.numbers tree))))
    (given (sight_of p s g) s.tree tree s.numbers refl h gives)

ended_holds : (p : Program) (s : State) (g : Progress) (counts : Counts) (tree : Node) (cs : List Change) → fresh (sight_of p s g) s.tree ≡ made tree → Holds p s
    → Holds p (ended_by s g counts (outcome_by g.lanes tree cs)).after
ended_holds p s g counts tree [] gives h = committed_holds p s g counts tree gives h
ended_holds p s g counts tree (c ∷ cs) gives h = go (only_transitions g.lanes) _
  where
    go : (b : Bool) (w : Awaits) → Holds p (ended_by s g counts (cond b (defer w) (commit tree))).after
    go true w = h
    go false w = committed_holds p s g counts tree gives h

-- Turns

going_holds : (p : Program) (s : State) (g : Progress) (budget : Option ℕ) (r : Stretch) → GoesOn AnyRender p s g budget r → Holds p s → Holds p r.after
going_holds p s g budget r (inl f, _) h =
    same_after (Holds p) r _ f.stretch_is (ended_holds p s g f.counts f.tree (newly_hidden s.tree f.tree) f.rendered h)
going_holds p s g budget r (inr y, _) h = same_after (Holds p) r _ y.stretch_is h

turn_holds : (p : Program) (s : State) (c : Choice) (budget : Option ℕ) (r : Stretch) → TurnBy AnyRender p s c budget r → Holds p s → Holds p r.after
turn_holds p s choice.None budget r is h = same_after (Holds p) r (silent s) is h
turn_holds p s choice.Keep budget r on h = go s.progress on
  where
    go : (x : Option Progress) → Continues AnyRender p s x budget r → Holds p r.after
    go None k = absurd k
    go (Some g) k = going_holds p s g budget r k h
turn_holds p s (choice.Start lanes) budget r starts h =
    same_after (Holds p) r (followed_by (passive_run s) starts.rest) starts.stretch_is
    (going_holds p (passive_run s).after (starting s lanes) budget starts.rest starts.begins h)

-- Each state that can be reached has a tree of the program.
pub reached_tree : (p : Program) (s : State) → IsReached p s → IsTree p s.tree
reached_tree p s t =
    holds_along p (Holds p)
    (record {
      starts = none_yet;
      events = λ s e h. h;
      ticks = λ s n h. h;
      passive = λ s h. h;
      turns = λ s budget r t h. turn_holds p s (choice_of s) budget r t h;
      sends = λ s w path m k o e h. subst (λ (t : Option Node). IsTree p t) (sym (sent_tree w s (hook m.number k) o)) h;
      refreshes = λ s w r h. subst (λ (t : Option Node). IsTree p t) (sym (sent_tree w s (resource r) op.Refresh)) h;
      resolves = λ s name v x e h. subst (λ (o : Option Node). IsTree p o) (sym (resolved_tree p s name v x)) h;
      discards = λ s h. h;
    }) s t

-- The root of such a tree is App's node

tree_root : (p : Program) (tree : Option Node) → IsTree p tree → IfSome tree (λ n. element_of n ≡ root_element p)
tree_root p tree none_yet = tt
tree_root p tree (given s old n next same t h) = subst (λ (q : Program). element_of (numbered next n).1 ≡ root_element q) same (root_stays s old n next h)

-- So it has no more nodes than the bound, and App's node as its root.
pub reached_bounded : (p : Program) → IsBounded p → (s : State) → IsReached p s → TreeIsBounded p s
reached_bounded p bounded s reached =
    let t = reached_tree p s reached in
    record { nodes = tree_within p bounded.apart bounded.small s.tree t; root = tree_root p s.tree t }

-- And each render that may come is within the bound.
pub renders_bounded : (p : Program) → IsBounded p → (s : State) → IsReached p s → RendersAreBounded p s
renders_bounded p bounded s reached g = render_within p bounded (sight_of p s g) s.tree refl (reached_tree p s reached)
