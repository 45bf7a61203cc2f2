-- What the end of a render needs, and which lanes it leaves pending.
use Rattle.std.proofs.Common.{◌≡◌, ◌<◌, ◌≤◌, ◌^◌, Bool, false, cond, List, [], ◌∷◌, refl, sym, ap, ◌∙◌, subst, arith, Option, Some}
use Rattle.std.specs.Prelude.{◌&&◌}
use Rattle.rx_lane.specs.declared.lane.Lane.{Lane}
use Rattle.rx_lane.specs.declared.lane.Lane.TheVariants.{Retry}
use Rattle.rx_lane.specs.Lanes.{Lanes, has, no_lanes, one, union, intersection, lanes_where, only_transitions}
use Rattle.rx_lane.specs.SetLaws.{lanes_agree}
use Rattle.rx_ast.specs.Syntax.{Program}
use Rattle.rx_rules.specs.Bounds.{node_bound}
use Rattle.rx_rules.specs.Versions.{greatest_node_limit}
use Rattle.rx_rules.proofs.Limits.{limits_nodes}
use Rattle.rx_check.specs.Accepted.{IsAccepted}
use Rattle.rx_check.proofs.Limited.{few-resources}
use Rattle.rx_elem.specs.Trees.{Node}
use Rattle.rx_elem.specs.Compare.{Change}
use Rattle.rx_elem.specs.Numbers.{numbered}
use Rattle.rx_elem.specs.Spots.{node_count}
use Rattle.rx_queue.specs.Journal.{has_later}
use Rattle.rx_meaning.specs.Fresh.{fresh, made}
use Rattle.rx_meaning.specs.Outcome.{commit, outcome, outcome_by, newly_hidden, awaits_resolved, still_pending}
use Rattle.rx_model.specs.State.{State, Progress}
use Rattle.rx_model.specs.Committing.{sight_of}
use Rattle.rx_model.specs.Laws.{IsBounded, IsReached}
use Rattle.host_laws.specs.Commits.{IsCommit, TextsAreLeaves}
use Rattle.replay_laws.proofs.Committing.{renders_commit}
use Rattle.replay_laws.proofs.Reached.{reached_committed}
use Rattle.run_laws.proofs.RunTrees.{renders_bounded}
use Rattle.rx_spots.specs.Waits.{AreWithinReach}
use Rattle.rx_root.specs.Rooted.{Rooted}
use Rattle.rx_kept.specs.Keeping.{AreDeclared}
use Rattle.rx_root.specs.Turning.{StandsAtEnd}
use Rattle.rx_kept.proofs.AttributesOnce.{attributes_apart}

-- the tree of a render is related to the committed one as a commit relates them, once it has its numbers
pub is_commit : (p : Program) → IsBounded p → IsAccepted p → (s : State) (g : Progress) (tree : Node) → IsReached p s → fresh (sight_of p s g) s.tree ≡ made tree
    → IsCommit s.tree (numbered s.numbers tree).1 × TextsAreLeaves (numbered s.numbers tree).1
is_commit p bounded accepted s g tree reached gives =
    renders_commit p bounded (attributes_apart p accepted) (sight_of p s g) s.numbers s.tree tree refl (reached_committed p s reached) gives

-- it has few nodes
pub few_nodes : (p : Program) → IsBounded p → (s : State) (g : Progress) (tree : Node) → IsReached p s → fresh (sight_of p s g) s.tree ≡ made tree
    → node_count (Some tree) ≤ greatest_node_limit
few_nodes p bounded s g tree reached gives =
    let within = renders_bounded p bounded s reached g in
    let trees : made within.tree ≡ made tree = sym within.rendered ∙ gives in
    let same : within.tree ≡ tree = cc in
    let nodes = subst (λ (n : Node). node_count (Some n) ≤ node_bound p) same within.nodes in
    omega (arith, nodes, bounded.small, limits_nodes p)

-- a render that has other lanes than transitions is committed
pub not_deferred : (lanes : Lanes) (old : Option Node) (tree : Node) → only_transitions lanes ≡ false → commit tree ≡ outcome lanes old tree
not_deferred lanes old tree other = go (newly_hidden old tree)
  where
    go : (cs : List Change) → commit tree ≡ outcome_by lanes tree cs
    go [] = refl
    go (c ∷ cs) = rw other refl

-- the resources with a value are some that a program reaches
pub within_reach : (p : Program) → IsAccepted p → (s : State) → AreDeclared p s.journal → AreWithinReach s.journal
within_reach p accepted s declared r v late = declared.values r v (omega (arith, late, few-resources p accepted))

-- the lanes that are pending again after a commit
pub still_as : (s : State) (g : Progress) (tree : Node) (later : Lanes) (waits : Bool) → ((l : Lane) → has later l ≡ has_later g.cut s.journal l)
    → waits ≡ awaits_resolved g.lanes g.cut s.journal tree
    → union (intersection g.lanes later) (cond waits (one Retry) no_lanes) ≡ still_pending g.lanes g.cut s.journal tree
still_as s g tree later waits same e =
    ap (λ (ls : Lanes). union ls (cond waits (one Retry) no_lanes))
    (lanes_agree (λ l. has g.lanes l && has later l) (λ l. has g.lanes l && has_later g.cut s.journal l) (λ l. ap (λ b. has g.lanes l && b) (same l)))
    ∙ ap (λ (b : Bool). union (lanes_where (λ l. has g.lanes l && has_later g.cut s.journal l)) (cond b (one Retry) no_lanes)) e

-- at the end of a render there are few nodes to number
pub few_at_end : (p : Program) (s : State) (g : Progress) (tree : Node) (v : Rooted) → IsBounded v.rendering.program → StandsAtEnd p s g tree v → node_count (Some tree) < 2 ^ 32
few_at_end p s g tree v bounded h = omega (arith, few_nodes p (subst IsBounded h.program bounded) s g tree h.reached h.progress.gives)
