-- The operations of a commit that places no host are those between what is left of the two trees.
use Rattle.std.specs.Prelude.{◌≡◌, ◌++◌, [], Option, Some, None, refl}
use Rattle.std.proofs.Common.{sym, ◌∙◌, ap}
use Rattle.rx_elem.specs.Trees.{Node}
use Rattle.rx_elem.specs.Spots.{at_root}
use Rattle.rx_forest.specs.Hosts.{hosts}
use Rattle.rx_forest.specs.HostOps.{contents, creations, hidings, host_ops, ops_between, placements, removals}
use Rattle.rx_pruned.specs.Pruned.{ArePruned, first, later}
use Rattle.host_laws.specs.Commits.{placed_by}
use Rattle.prune_laws.specs.Staying.{AreOfCommit}
use Rattle.host_laws.specs.Related.{AreDistinct}
use Rattle.prune_laws.proofs.Merged.{kept_distinct, ops_placed, ops_same}
use Rattle.prune_laws.proofs.Parts.{left_at}

none_placed : (old : Option Node) (new : Node) → placed_by old new ≡ [] → host_ops old new ≡ ops_between (hosts old) (hosts (Some new)) []
unfolding host_ops
none_placed old new h = ap (ops_between (hosts old) (hosts (Some new))) h

-- hosts that are left out of both trees need no operation
pub staying_need_nothing : (old : Option Node) (new : Node) (p : Option Node) (q : Node) → ArePruned old new p q → AreOfCommit old new → placed_by old new ≡ []
    → ops_between (hosts p) (hosts (Some q)) [] ≡ host_ops old new
staying_need_nothing old new p q (first {n = n}) c h = sym (none_placed None n h)
staying_need_nothing old new p q (later {o = o} {n = n} {p = po} {q = qo} pruned) c h =
    let l = left_at pruned at_root at_root (record { host = refl; concealed = refl }) in
    ops_same l.merged_old l.merged_new l.same c.old_distinct c.new_distinct c.kinds ∙ sym (none_placed (Some o) n h)

-- nor do they if hosts are placed, but that those go before hosts that may be left out
pub placed_need_others : (old : Option Node) (new : Node) (p : Option Node) (q : Node) → ArePruned old new p q → AreOfCommit old new
    → removals (hosts p) (hosts (Some q)) ++ creations (hosts p) (hosts (Some q)) ++ placements (placed_by old new) (hosts (Some new)) ++ contents (hosts p) (hosts (Some q))
    ++ hidings (hosts p) (hosts (Some q)) ≡ host_ops old new
unfolding host_ops
placed_need_others old new p q (first {n = n}) c = refl
placed_need_others old new p q (later {o = o} {n = n} {p = po} {q = qo} pruned) c =
    let l = left_at pruned at_root at_root (record { host = refl; concealed = refl }) in
    ops_placed l.merged_old l.merged_new l.same c.old_distinct c.new_distinct c.kinds (placed_by (Some o) n)

-- the hosts that are left of the old tree have numbers of their own
pub left_distinct : (old : Option Node) (new : Node) (p : Option Node) (q : Node) → ArePruned old new p q → AreOfCommit old new → AreDistinct (hosts p)
left_distinct old new p q (first {n = n}) c = tt
left_distinct old new p q (later {o = o} {n = n} {p = po} {q = qo} pruned) c =
    kept_distinct (left_at pruned at_root at_root (record { host = refl; concealed = refl })).merged_old c.old_distinct
