-- A prepared commit, and what it makes of what is shown.
use Rattle.std.proofs.Common.{◌≡◌, Bool, true, false, List, [], ◌∷◌, Option, Some, None, refl, sym, subst, ◌∙◌}
use Rattle.std.specs.Prelude.{if◌then◌else◌}
use Rattle.rx_base.specs.Awaits.{Awaits}
use Rattle.rx_lane.specs.Lanes.{Lanes, only_transitions}
use Rattle.rx_elem.specs.Trees.{Node}
use Rattle.rx_elem.specs.Compare.{Change}
use Rattle.rx_forest.specs.declared.op.HostOp.{HostOp}
use Rattle.rx_forest.specs.Forests.{HostForest, forest_of, CanBeReplayed, Replays}
use Rattle.rx_forest.specs.Hosts.{hosts}
use Rattle.rx_forest.specs.HostOps.{host_ops}
use Rattle.host_laws.specs.Commits.{IsCommit, TextsAreLeaves}
use Rattle.host_laws.proofs.OneResult.{replays_once}
use Rattle.host_laws.proofs.Replay.{commit_replays}
use Rattle.host_laws.proofs.Replayable.{commit_made}
use Rattle.end_laws.specs.Trimmed.{trimmed, trimmed_if}
use Rattle.end_laws.proofs.Outcomes.{outcome_same}
use Rattle.end_laws.specs.Outcomes.{trimmed_outcome}
use Rattle.rx_meaning.specs.Outcome.{commit, defer, all_awaits, newly_hidden, outcome, outcome_by}
use Rattle.rx_commit.specs.Shown.{outcome_as}

-- the operations of a commit can be made in the forest of the old tree
pub made-here : (old : Option Node) (new : Node) (f : HostForest) (ops : List HostOp) → f ≡ forest_of (hosts old) → ops ≡ host_ops old new
    → IsCommit old new → TextsAreLeaves new → CanBeReplayed f ops
made-here old new f ops e g is_commit leaves =
    subst (λ (h : HostForest). CanBeReplayed h ops) (sym e)
    (subst (CanBeReplayed (forest_of (hosts old))) (sym g) (commit_made old new is_commit leaves))

-- and what they make of it is the forest of the new tree
pub committed-here : (old : Option Node) (new : Node) (f g : HostForest) (ops : List HostOp) → f ≡ forest_of (hosts old) → ops ≡ host_ops old new
    → IsCommit old new → Replays f ops g → g ≡ forest_of (hosts (Some new))
committed-here old new f g ops e is is_commit made =
    replays_once (forest_of (hosts old)) (host_ops old new) g (forest_of (hosts (Some new)))
    (subst (λ (xs : List HostOp). Replays (forest_of (hosts old)) xs g) is (subst (λ (h : HostForest). Replays h ops g) e made))
    (commit_replays old new is_commit)

-- a render of a tree is committed or deferred as that of the trimmed tree
outcome-if : (new : Node) (x : Option Awaits) (b : Bool) (waits : Awaits) → outcome_as (trimmed new) x ≡ trimmed_outcome (if b then defer waits else commit new)
    → outcome_as new x ≡ (if b then defer waits else commit new)
outcome-if new None true waits e = cc
outcome-if new (Some a) true waits e = e
outcome-if new None false waits e = refl
outcome-if new (Some a) false waits e = cc

-- the same, by the boundaries that it would hide
outcome-by : (lanes : Lanes) (new : Node) (x : Option Awaits) (hidden : List Change) → outcome_as (trimmed new) x ≡ trimmed_outcome (outcome_by lanes new hidden)
    → outcome_as new x ≡ outcome_by lanes new hidden
outcome-by lanes new x [] e = outcome-if new x false [] e
outcome-by lanes new x (c ∷ cs) e = outcome-if new x (only_transitions lanes) (all_awaits (c ∷ cs)) e

-- what becomes of trimmed trees becomes of the trees
pub outcome-trimmed : (lanes : Lanes) (old : Option Node) (new : Node) (x : Option Awaits) → outcome_as (trimmed new) x ≡ outcome lanes (trimmed_if old) (trimmed new)
    → outcome_as new x ≡ outcome lanes old new
outcome-trimmed lanes old new x is = outcome-by lanes new x (newly_hidden old new) (is ∙ outcome_same lanes old new)
