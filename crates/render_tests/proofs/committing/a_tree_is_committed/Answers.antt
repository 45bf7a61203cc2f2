use Rattle.std.specs.Prelude.{None}
use Rattle.std.proofs.Common.{ap, ◌∙◌, subst}
use Rattle.rx_elem.specs.Trees.{Node}
use Rattle.rx_effect.specs.EffectLog.{no_passive}
use Rattle.rx_forest.specs.HostOps.{placements}
use Rattle.rx_pruned.specs.Besides.{IsBeside}
use Rattle.render_tests.proofs.committing.a_tree_is_committed.Goals as goal

pub commit-requires : goal.commit-requires
commit-requires g c =
    let tree = c.in_ok-tree.tree in
    let beside = subst (λ (n : Node). IsBeside None n c.beside_none-beside.result) c.in_ok-tree.ensures.ends c.beside_none-beside.ensures in
    let prepares = c.in_ok-prepared.ensures.prepares None tree beside tt c.in_ok-tree.ensures.commit
    (ap (placements c.in_ok-changes.changes.placed.items) (c.deref-2.ensures.value ∙ c.in_ok-all.ensures)) in
    c.in_ok-prepared.ensures.ready None no_passive tree c.new-shown.ensures c.in_ok-tree.ensures.commit c.in_ok-tree.ensures.leaves prepares
