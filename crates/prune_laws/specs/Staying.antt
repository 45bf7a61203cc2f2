-- The hosts of two trees, as a commit relates them.
use Rattle.rx_elem.specs.Trees.{Node}
use Rattle.rx_forest.specs.Hosts.{hosts}
use Rattle.host_laws.specs.Related.{AreDistinct, KeepKinds}
use Rattle.std.specs.Prelude.{Option, Some}

-- no two hosts of one tree have one number, and each that was there before is of the kind that it was
pub record AreOfCommit (old : Option Node) (new : Node) : Type 0 where
  pub old_distinct : AreDistinct (hosts old)
  pub new_distinct : AreDistinct (hosts (Some new))
  pub kinds : KeepKinds (hosts old) (hosts (Some new))
