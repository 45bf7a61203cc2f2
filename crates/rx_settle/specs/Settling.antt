-- When the hooks of a tree's instances can be settled at its commit.
use Rattle.std.specs.Prelude.{◌≡◌, ℕ, List, Option}
use Rattle.rx_base.specs.declared.cut.Cut.{Cut}
use Rattle.rx_lane.specs.Lanes.{Lanes}
use Rattle.rx_ast.specs.Syntax.{Program}
use Rattle.rx_elem.specs.Numbers.{numbered}
use Rattle.rx_elem.specs.Trees.{Node}
use Rattle.rx_hooks.specs.declared.hook.Hook.{Hook}
use Rattle.rx_meaning.specs.Fresh.{fresh, made}
use Rattle.rx_meaning.specs.Settled.{DoneBefore}
use Rattle.rx_model.specs.State.{Progress, State}
use Rattle.rx_model.specs.Committing.{sight_of}
use Rattle.rx_model.specs.HooksOf.{KeepsAllHooks}
use Rattle.rx_model.specs.Laws.{IsBounded, IsReached}
use Rattle.rx_hook_store.specs.Commits.{LinksBelow}
use Rattle.end_laws.specs.Trimmed.{trimmed, trimmed_if}

-- A render of the machine in this state gave a node, and its commit is at hand: the old tree is the committed one and the new tree that node with its numbers, both without the vacant places at the ends of their lists; new instances have numbers from the first on; and what is kept stands for the state.
pub record IsSettlingOf (p : Program) (kept : ℕ → Option (List Hook)) (old : Option Node) (new : Node) (first : ℕ) (lanes : Lanes) (cut : Cut) (s : State) (g : Progress) (x : Node) : Type 0 where
  pub bounded : IsBounded p
  pub reached : IsReached p s
  pub gives : fresh (sight_of p s g) s.tree ≡ made x
  pub done : DoneBefore g.cut s.journal.updates
  pub links : LinksBelow s
  pub keeps : KeepsAllHooks p s kept
  pub old_is : old ≡ trimmed_if s.tree
  pub new_is : new ≡ trimmed (numbered s.numbers x).1
  pub first_is : first ≡ s.numbers.instance
  pub lanes_are : lanes ≡ g.lanes
  pub cut_is : cut ≡ g.cut

-- some render of the machine is at hand for this commit
pub record CanSettle (p : Program) (kept : ℕ → Option (List Hook)) (old : Option Node) (new : Node) (first : ℕ) (lanes : Lanes) (cut : Cut) : Type 0 where
  pub state : State
  pub progress : Progress
  pub rendered : Node
  pub is : IsSettlingOf p kept old new first lanes cut state progress rendered
