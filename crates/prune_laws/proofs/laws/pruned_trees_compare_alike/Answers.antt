use Rattle.rx_elem.specs.Compare.{compare_trees}
use Rattle.prune_laws.proofs.OutcomeAlike.{layout_alike, passive_alike, deferred_alike, committed_alike}
use Rattle.prune_laws.proofs.Present.{if_settled_present}
use Rattle.prune_laws.proofs.PrunedAlike.{trees_alike}
use Rattle.prune_laws.proofs.laws.pruned_trees_compare_alike.Goals as goal

pub returns : goal.returns
returns c = record {
  layout = λ o n p q present pruned. layout_alike (compare_trees p q) (compare_trees o n) (trees_alike pruned present);
  passive = λ o n p q present pruned. passive_alike (compare_trees p q) (compare_trees o n) (trees_alike pruned present);
  placed = λ o n p q present pruned. (trees_alike pruned present).places;
  caught = λ o n p q present pruned. (trees_alike pruned present).catches;
  deferred = λ lanes o n p q a present pruned. deferred_alike lanes o p n q a (trees_alike pruned present);
  committed = λ lanes o n p q present pruned. committed_alike lanes o p n q (trees_alike pruned present);
  present = if_settled_present;
}
