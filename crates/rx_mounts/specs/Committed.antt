-- The hosts of a committed tree.
use Rattle.std.specs.Prelude.{◌≡◌, List, [], Option, Some}
use Rattle.rx_elem.specs.Trees.{Node}
use Rattle.rx_forest.specs.Hosts.{Host, hosts}
use Rattle.host_laws.specs.Commits.{IsCommit, TextsAreLeaves}

-- hosts are those of a tree that a commit makes, or there is none yet
pub data AreCommitted (hs : List Host) : Type 0 where
  none_yet : hs ≡ [] → AreCommitted hs
  committed : (old : Option Node) (new : Node) → IsCommit old new → TextsAreLeaves new → hs ≡ hosts (Some new) → AreCommitted hs
