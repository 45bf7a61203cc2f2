-- What an old node has of the committed tree.
use Rattle.std.specs.Prelude.{ℕ, Bool, Option}
use Rattle.rx_elem.specs.Trees.{Node}
use Rattle.rx_ast.specs.Syntax.{Program}
use Rattle.rx_meaning.specs.Fresh.{Sight}
use Rattle.rx_meaning.specs.Settled.{Known, IsSettled, IfSettled}
use Rattle.commit_laws.specs.Idle.{IsIdleMark}
use Rattle.rx_ways.specs.Ways.{Covers, CoversIf}
use Rattle.cost_laws.specs.Undue.{IsUndue}

-- a node is settled if the tree is, and ways that cover the tree for a render cover it
pub record GoesWith (tree : Option Node) (x : Node) : Type 0 where
  pub settles : (p : Program) (k : Known) → IfSettled p k tree → IsSettled p k x
  pub covered : (way : ℕ → Bool) (s : Sight) → CoversIf way (IsIdleMark s) tree → Covers way (IsIdleMark s) x
  pub undue : (way : ℕ → Bool) (s : Sight) → CoversIf way (IsUndue s) tree → Covers way (IsUndue s) x
