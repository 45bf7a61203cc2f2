-- What is read of a root.
use Rattle.std.proofs.Common.{◌≡◌, ◌≤◌, Bool, true, false, cond, List, [], ◌∷◌, length, refl, sym, ap, arith}
use Rattle.std.specs.Prelude.{Option, Some, Result, Ok, Err, OnErr, OnOk, filter}
use Rattle.rx_lane.specs.Lanes.{has, lanes_where}
use Rattle.rx_ast.specs.Syntax.{Program}
use Rattle.rx_rules.specs.Versions.{greatest_node_limit}
use Rattle.rx_rules.proofs.Limits.{limits_nodes}
use Rattle.rx_elem.specs.Spots.{hidden_count, node_count, spot_mark, tree_spots}
use Rattle.rx_elem.specs.Numbers.{Numbers, numbered}
use Rattle.rx_elem.specs.Trees.{Node, is_hidden}
use Rattle.rx_forest.specs.Hosts.{hosts}
use Rattle.rx_report.specs.TreeOrder.{AreInTreeOrder, nothing}
use Rattle.rx_check.specs.Accepted.{IsAccepted}
use Rattle.host_laws.specs.Commits.{IsCommit}
use Rattle.replay_laws.specs.Committed.{IsCommitted, none_yet, one_more}
use Rattle.replay_laws.proofs.Committing.{renders_commit}
use Rattle.replay_laws.proofs.Reached.{reached_committed}
use Rattle.rx_kept.proofs.AttributesOnce.{attributes_apart}
use Rattle.rx_lines.specs.Lines.{last_line}
use Rattle.rx_model.specs.State.{State, end_line}
use Rattle.rx_model.specs.Laws.{IsBounded, IsReached}
use Rattle.run_laws.proofs.KeptFacts.{kept_facts}
use Rattle.run_laws.proofs.RunTrees.{reached_bounded}

-- ---- results

-- what holds if a call succeeds, whatever it is about
pub ok_each : {A E S : Type 0} (r : Result A E) (H P : S → Type 0) → ((s : S) → H s → OnOk r (P s)) → OnOk r ((s : S) → H s → P s)
ok_each (Ok a) H P f = f
ok_each (Err e) H P f = tt

-- what follows from two facts that hold if a call succeeds
pub on_ok_both : {A E : Type 0} (r : Result A E) (P Q R : Type 0) → (P → Q → R) → OnOk r P → OnOk r Q → OnOk r R
on_ok_both (Ok a) P Q R f h k = f h k
on_ok_both (Err e) P Q R f h k = tt

-- what holds if a call fails holds of what follows from it
pub on_err : {A E : Type 0} (r : Result A E) (P Q : Type 0) → (P → Q) → OnErr r P → OnErr r Q
on_err (Ok a) P Q f h = tt
on_err (Err e) P Q f h = f h

-- ---- counts

fewer_pass : {X : Type 0} (f : X → Bool) (xs : List X) → length (filter f xs) ≤ length xs
fewer_pass f [] = omega arith
fewer_pass f (x ∷ xs) = go (f x) (fewer_pass f xs)
  where
    go : (b : Bool) → length (filter f xs) ≤ length xs → length (cond b (x ∷ filter f xs) (filter f xs)) ≤ length (x ∷ xs)
    go true h = omega (arith, h)
    go false h = omega (arith, h)

-- the committed tree of a state that is reached has few nodes
pub few_nodes : (p : Program) → IsBounded p → (s : State) → IsReached p s → node_count s.tree ≤ greatest_node_limit
few_nodes p bounded s reached = omega (arith, (reached_bounded p bounded s reached).nodes, bounded.small, limits_nodes p)

-- and no more hidden boundaries
pub few_hidden : (p : Program) → IsBounded p → (s : State) → IsReached p s → hidden_count s.tree ≤ greatest_node_limit
few_hidden p bounded s reached = omega (arith, fewer_pass (λ x. is_hidden (spot_mark x)) (tree_spots s.tree), few_nodes p bounded s reached)

-- ---- hosts in tree order

-- the hosts of what a commit leaves are in tree order
abbrev EachInOrder : Type 0
EachInOrder = (old : Option Node) (new : Node) → IsCommit old new → AreInTreeOrder (hosts (Some new))

-- the hosts of the committed tree of a state that is reached are in tree order
committed_order : (p : Program) → IsBounded p → IsAccepted p → EachInOrder → (next : Numbers) (tree : Option Node) → IsCommitted p next tree → AreInTreeOrder (hosts tree)
committed_order p bounded accepted orders _ _ (none_yet next h) = record { order = nothing; distinct = tt; above = refl; by_name = tt }
committed_order p bounded accepted orders _ _ (one_more s next old n same h gives) =
    orders old (numbered next n).1 (renders_commit p bounded (attributes_apart p accepted) s next old n same h gives).0

pub tree_order : (p : Program) → IsBounded p → IsAccepted p → EachInOrder → (s : State) → IsReached p s → AreInTreeOrder (hosts s.tree)
tree_order p bounded accepted orders s reached = committed_order p bounded accepted orders s.numbers s.tree (reached_committed p s reached)

-- ---- the last line

-- the last line of a report
pub last_line_is : (p : Program) → IsBounded p → (s : State) → IsReached p s → last_line (lanes_where (has s.schedule.pending)) (hidden_count s.tree) ≡ end_line s
last_line_is p bounded s reached = ap (λ ls. last_line ls (hidden_count s.tree)) (sym (kept_facts p bounded s reached).pending_are_set)
