-- The operations on hosts, what is caught, and the outcome: those of the trimmed trees.
use Rattle.std.specs.Prelude.{◌≡◌, Bool, true, false, List, [], ◌∷◌, map, filter, filter_map, fold, length, Option, Some, None, option_and_then, if◌then◌else◌}
use Rattle.std.proofs.Common.{refl, ap, ◌∙◌}
use Rattle.std.proofs.lemmas.List.{length-map}
use Rattle.rx_base.specs.Awaits as awaits
use Rattle.rx_lane.specs.Lanes.{Lanes, only_transitions}
use Rattle.rx_elem.specs.Trees.{mark_of, Node, node, awaits_in, boundary_in, old_caught}
use Rattle.rx_elem.specs.Compare.{Change, changes, compare_trees}
use Rattle.rx_forest.specs.Hosts.{hosts}
use Rattle.rx_forest.specs.HostOps.{ops_between, placed_hosts, placed_in, host_ops}
use Rattle.rx_meaning.specs.Outcome.{commit, defer, hides_shown, newly_hidden, caught_anew, newly_caught, all_awaits, outcome_by, outcome}
use Rattle.end_laws.specs.Trimmed.{trimmed, trimmed_if}
use Rattle.end_laws.specs.Outcomes.{trimmed_outcome}
use Rattle.end_laws.proofs.Lists.{map_same, filter_same, filter_map_same}
use Rattle.end_laws.proofs.Read.{mark_same, hosts_same}
use Rattle.end_laws.proofs.Compared.{trimmed_change, trees_same, changes_same}

-- the changes of the trimmed trees are those of the trees, trimmed
all_changes : (old : Option Node) (new : Node) → changes (compare_trees (trimmed_if old) (trimmed new)) ≡ map trimmed_change (changes (compare_trees old new))
all_changes old new = ap changes (trees_same old new) ∙ changes_same (compare_trees old new)

-- The operations

placed_same : (old : Option Node) (new : Node)
    → placed_hosts (changes (compare_trees (trimmed_if old) (trimmed new))) ≡ placed_hosts (changes (compare_trees old new))
placed_same old new =
    ap placed_hosts (all_changes old new)
    ∙ filter_map_same trimmed_change placed_in (λ c. rw (mark_same c.new) refl) (changes (compare_trees old new))

pub ops_same : (old : Option Node) (new : Node) → host_ops (trimmed_if old) (trimmed new) ≡ host_ops old new
unfolding host_ops
ops_same old new =
    ap (λ hs. ops_between hs (hosts (Some (trimmed new))) (placed_hosts (changes (compare_trees (trimmed_if old) (trimmed new))))) (hosts_same old)
    ∙ (ap (λ hs. ops_between (hosts old) hs (placed_hosts (changes (compare_trees (trimmed_if old) (trimmed new))))) (hosts_same (Some new))
    ∙ ap (ops_between (hosts old) (hosts (Some new))) (placed_same old new))

-- What is caught

was_caught_same : (old : Option Node) → old_caught (trimmed_if old) ≡ old_caught old
was_caught_same None = refl
was_caught_same (Some (node e m ns fs)) = refl

catches_same : (c : Change) → caught_anew (trimmed_change c) ≡ caught_anew c
catches_same c = rw (was_caught_same c.old, mark_same c.new) refl

pub caught_same : (old : Option Node) (new : Node) → newly_caught (trimmed_if old) (trimmed new) ≡ newly_caught old new
caught_same old new =
    ap (filter_map caught_anew) (all_changes old new) ∙ filter_map_same trimmed_change caught_anew catches_same (changes (compare_trees old new))

-- What is newly hidden

old_state_same : (old : Option Node) → option_and_then (λ n. boundary_in (mark_of n)) (trimmed_if old) ≡ option_and_then (λ n. boundary_in (mark_of n)) old
old_state_same None = refl
old_state_same (Some (node e m ns fs)) = refl

hides_same : (c : Change) → hides_shown (trimmed_change c) ≡ hides_shown c
hides_same c = rw (old_state_same c.old, mark_same c.new) refl

pub hidden_same : (old : Option Node) (new : Node) → newly_hidden (trimmed_if old) (trimmed new) ≡ map trimmed_change (newly_hidden old new)
hidden_same old new =
    ap (filter hides_shown) (all_changes old new) ∙ filter_same trimmed_change hides_shown hides_same (changes (compare_trees old new))

pub hidden_count_same : (old : Option Node) (new : Node) → length (newly_hidden (trimmed_if old) (trimmed new)) ≡ length (newly_hidden old new)
hidden_count_same old new = ap length (hidden_same old new) ∙ length-map (newly_hidden old new) trimmed_change

awaits_of_changes : (cs : List Change) → all_awaits (map trimmed_change cs) ≡ all_awaits cs
awaits_of_changes cs =
    ap (fold awaits.union awaits.nothing) (map_same trimmed_change (λ c. awaits_in (mark_of c.new)) (λ c. rw (mark_same c.new) refl) cs)

pub all_awaits_same : (old : Option Node) (new : Node) → all_awaits (newly_hidden (trimmed_if old) (trimmed new)) ≡ all_awaits (newly_hidden old new)
all_awaits_same old new = ap all_awaits (hidden_same old new) ∙ awaits_of_changes (newly_hidden old new)

-- The outcome

outcome_by_same : (lanes : Lanes) (new : Node) (cs : List Change) → outcome_by lanes (trimmed new) (map trimmed_change cs) ≡ trimmed_outcome (outcome_by lanes new cs)
outcome_by_same lanes new [] = refl
outcome_by_same lanes new (c ∷ cs) = rw (awaits_of_changes (c ∷ cs)) (by_lanes (only_transitions lanes))
  where
    by_lanes : (b : Bool) → (if b then defer (all_awaits (c ∷ cs)) else commit (trimmed new)) ≡ trimmed_outcome (if b then defer (all_awaits (c ∷ cs)) else commit new)
    by_lanes true = refl
    by_lanes false = refl

pub outcome_same : (lanes : Lanes) (old : Option Node) (new : Node)
    → outcome lanes (trimmed_if old) (trimmed new) ≡ trimmed_outcome (outcome lanes old new)
outcome_same lanes old new = ap (outcome_by lanes (trimmed new)) (hidden_same old new) ∙ outcome_by_same lanes new (newly_hidden old new)
