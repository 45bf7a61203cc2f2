-- What the commits of a program leave, and that their operations replay.
use Rattle.std.specs.Prelude.{◌≡◌, ◌≤◌, Option, Some, None}
use Rattle.rx_ast.specs.Syntax.{Program}
use Rattle.rx_elem.specs.Trees.{Node}
use Rattle.rx_elem.specs.Numbers.{Numbers, numbered}
use Rattle.rx_meaning.specs.Fresh.{Sight, fresh, made}
use Rattle.rx_forest.specs.Hosts.{hosts}
use Rattle.rx_forest.specs.HostOps.{host_ops}
use Rattle.rx_forest.specs.Forests.{forest_of, Replays, CanBeReplayed}
use Rattle.host_laws.specs.Commits.{IsCommit, TextsAreLeaves}
use Rattle.rx_model.specs.State.{Progress}
use Rattle.rx_model.specs.Committing.{sight_of}
use Rattle.rx_model.specs.Laws.{IsBounded, Always}
use Rattle.replay_laws.specs.Attributes.{AttributesApart}

-- The numbers that come next and the tree, after some commits of a program: none yet, or one more of a tree that was rendered against the tree before it and got its numbers.
pub data IsCommitted (p : Program) : (next : Numbers) → (tree : Option Node) → Type 0 where
  none_yet : (next : Numbers) → 1 ≤ next.host → IsCommitted p next None
  one_more : (s : Sight) (next : Numbers) (old : Option Node) (n : Node)
      → s.program ≡ p → IsCommitted p next old → fresh s old ≡ made n → IsCommitted p (numbered next n).0 (Some (numbered next n).1)

-- each render against a committed tree is a commit, once it has its numbers, and no text in it has children
abbrev pub RendersCommit : Program → Type 0
RendersCommit p =
    IsBounded p → AttributesApart p
    → (s : Sight) (next : Numbers) (old : Option Node) (n : Node) → s.program ≡ p → IsCommitted p next old → fresh s old ≡ made n
    → IsCommit old (numbered next n).1 × TextsAreLeaves (numbered next n).1

-- what is said of the old tree and the new one at the commit of each finished render, in each state that can be reached
abbrev pub EachCommit : Program → (Option Node → Node → Type 0) → Type 0
EachCommit p Q =
    AttributesApart p → Always p (λ s. (g : Progress) (n : Node) → fresh (sight_of p s g) s.tree ≡ made n → Q s.tree (numbered s.numbers n).1)

-- the operations of each commit make the new tree of hosts of the old one
abbrev pub ReplayLaw : Program → Type 0
ReplayLaw p = EachCommit p (λ old new. Replays (forest_of (hosts old)) (host_ops old new) (forest_of (hosts (Some new))))

-- each operation of each commit can be made in its turn
abbrev pub MadeLaw : Program → Type 0
MadeLaw p = EachCommit p (λ old new. CanBeReplayed (forest_of (hosts old)) (host_ops old new))
