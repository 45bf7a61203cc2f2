-- What is shown of a committed tree, and what a commit is prepared to do to it.
use Rattle.std.specs.Prelude.{◌≡◌, ◌≤◌, ℕ, ℤ, List, length, Option, Some, None}
use Rattle.rx_elem.specs.Trees.{Node}
use Rattle.rx_elem.specs.Compare.{compare_trees}
use Rattle.rx_effect.specs.declared.log.LogLine.{LogLine}
use Rattle.rx_effect.specs.EffectLog.{Passive, layout_log, passive_of}
use Rattle.rx_forest.specs.declared.op.HostOp.{HostOp}
use Rattle.rx_forest.specs.Forests.{forest_of, CanBeReplayed}
use Rattle.rx_forest.specs.Hosts.{Host, hosts}
use Rattle.rx_forest.specs.HostOps.{host_ops, placements}
use Rattle.rx_base.specs.Awaits.{Awaits}
use Rattle.rx_host.specs.Kept.{Kept, forest_kept}
use Rattle.rx_meaning.specs.Outcome.{Outcome, commit, defer, newly_caught}

-- what is shown of the committed tree: its hosts with room for more, and the pending passive effects
pub record Shown : Type 0 where
  pub hosts : Kept
  pub passive : Passive

-- What is shown is that of a committed tree and of pending passive effects: its hosts, and these effects.
pub record Shows (tree : Option Node) (passive : Passive) (v : Shown) : Type 0 where
  pub hosts_are : forest_kept v.hosts ≡ forest_of (hosts tree)
  pub passive_is : v.passive ≡ passive

-- what a commit is prepared to do: these operations on the hosts, with these values that error boundaries catch and these layout effects, and to leave these passive effects pending
pub record Prepared : Type 0 where
  pub ops : List HostOp
  pub caught : List ℤ
  pub layout : List LogLine
  pub passive : Passive

-- a prepared commit is that of a tree after another one
pub record Prepares (old : Option Node) (new : Node) (x : Prepared) : Type 0 where
  pub ops_are : x.ops ≡ host_ops old new
  pub caught_is : x.caught ≡ newly_caught old new
  pub layout_is : x.layout ≡ layout_log (compare_trees old new)
  pub passive_is : x.passive ≡ passive_of (compare_trees old new)

-- what is shown can take a prepared commit: there is room, and each operation can be made in its turn
pub record CanCommit (v : Shown) (x : Prepared) : Type 0 where
  pub room : length x.ops ≤ v.hosts.spare
  pub made : CanBeReplayed (forest_kept v.hosts) x.ops

-- what becomes of a render of this tree: it is committed, or deferred until one of these has a value
abbrev pub outcome_as : Node → Option Awaits → Outcome
outcome_as new None = commit new
outcome_as new (Some awaits) = defer awaits

-- these hosts tell where the placed ones go, as all hosts of the new tree do
abbrev pub TellsWhere : (placed : List ℕ) → (told : List Host) → Node → Type 0
TellsWhere placed told new = placements placed told ≡ placements placed (hosts (Some new))
