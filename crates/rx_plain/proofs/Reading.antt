-- What is read of the plain machine.
use Rattle.std.proofs.Common.{◌≡◌, ℕ, ◌≤◌, ◌-◌, ◌^◌, Bool, true, false, cond, List, [], ◌∷◌, length, refl, sym, ap, ◌∙◌, subst, arith}
use Rattle.std.specs.Prelude.{Option, filter, min}
use Rattle.rx_lane.specs.Lanes.{Lanes, has, lanes_where}
use Rattle.rx_ast.specs.Syntax.{Program}
use Rattle.rx_rules.specs.Versions.{greatest_node_limit}
use Rattle.rx_rules.proofs.Limits.{limits_nodes}
use Rattle.rx_elem.specs.Spots.{hidden_count, node_count, spot_mark, tree_spots}
use Rattle.rx_elem.specs.Numbers.{Numbers, numbered}
use Rattle.rx_elem.specs.Trees.{Node, is_hidden}
use Rattle.rx_forest.specs.Hosts.{Host, hosts}
use Rattle.rx_check.specs.Accepted.{IsAccepted}
use Rattle.rx_lines.specs.Lines.{last_line}
use Rattle.rx_model.specs.State.{State, end_line}
use Rattle.rx_model.specs.Laws.{IsBounded, IsReached}
use Rattle.replay_laws.specs.Committed.{IsCommitted, none_yet, one_more}
use Rattle.replay_laws.proofs.Committing.{renders_commit}
use Rattle.replay_laws.proofs.Reached.{reached_committed}
use Rattle.run_laws.proofs.KeptFacts.{kept_facts}
use Rattle.run_laws.proofs.RunTrees.{reached_bounded}
use Rattle.rx_mounts.specs.Committed as committed
use Rattle.rx_mounts.specs.Committed.{AreCommitted}
use Rattle.rx_kept.proofs.AttributesOnce.{attributes_apart}

-- ---- counts

fewer_pass : {X : Type 0} (f : X → Bool) (xs : List X) → length (filter f xs) ≤ length xs
fewer_pass f [] = omega arith
fewer_pass f (x ∷ xs) = go (f x) (fewer_pass f xs)
  where
    go : (b : Bool) → length (filter f xs) ≤ length xs → length (cond b (x ∷ filter f xs) (filter f xs)) ≤ length (x ∷ xs)
    go true h = omega (arith, h)
    go false h = omega (arith, h)

-- the committed tree of a state that is reached has few hidden boundaries
few_hidden : (p : Program) → IsBounded p → (s : State) → IsReached p s → hidden_count s.tree ≤ greatest_node_limit
few_hidden p bounded s reached =
    let nodes : node_count s.tree ≤ greatest_node_limit = omega (arith, (reached_bounded p bounded s reached).nodes, bounded.small, limits_nodes p) in
    omega (arith, fewer_pass (λ x. is_hidden (spot_mark x)) (tree_spots s.tree), nodes)

-- so they are all counted
pub all_hidden : (p : Program) → IsBounded p → (s : State) → IsReached p s → (n : ℕ) → n ≡ min (hidden_count s.tree) (2 ^ 32 - 1) → n ≡ hidden_count s.tree
all_hidden p bounded s reached n is = omega (arith, is, few_hidden p bounded s reached)

-- ---- hosts

-- the hosts of the committed tree are those of a commit
committed_hosts : (p : Program) → IsBounded p → IsAccepted p → (next : Numbers) (tree : Option Node) → IsCommitted p next tree → AreCommitted (hosts tree)
committed_hosts p bounded accepted _ _ (none_yet next h) = committed.none_yet refl
committed_hosts p bounded accepted _ _ (one_more s next old n same h gives) =
    let commits = renders_commit p bounded (attributes_apart p accepted) s next old n same h gives in committed.committed old (numbered next n).1 commits.0 commits.1 refl

pub reached_hosts : (p : Program) → IsBounded p → IsAccepted p → (s : State) → IsReached p s → (hs : List Host) → hs ≡ hosts s.tree → AreCommitted hs
reached_hosts p bounded accepted s reached hs is = subst (λ (xs : List Host). AreCommitted xs) (sym is) (committed_hosts p bounded accepted s.numbers s.tree (reached_committed p s reached))

-- ---- the last line

pub last_line_is : (p : Program) → IsBounded p → (s : State) → IsReached p s → (pending : Lanes) (n : ℕ) → pending ≡ s.schedule.pending → n ≡ hidden_count s.tree
    → last_line (lanes_where (has pending)) n ≡ end_line s
last_line_is p bounded s reached pending n same count =
    (λ i. last_line (lanes_where (has (same i))) (count i)) ∙ ap (λ ls. last_line ls (hidden_count s.tree)) (sym (kept_facts p bounded s reached).pending_are_set)
