-- When the commit of a finished render is at hand.
use Rattle.std.specs.Prelude.{ℕ, List, Option, Some}
use Rattle.rx_base.specs.declared.cut.Cut.{Cut}
use Rattle.rx_lane.specs.Lanes.{Lanes}
use Rattle.rx_ast.specs.Syntax.{Program}
use Rattle.rx_elem.specs.Numbers.{numbered}
use Rattle.rx_elem.specs.Trees.{Node}
use Rattle.rx_hooks.specs.declared.hook.Hook.{Hook}
use Rattle.rx_links.specs.Drafts.{Trees, grafted}
use Rattle.rx_model.specs.State.{Progress, State}
use Rattle.rx_fiber.specs.Fibers.{Fiber}
use Rattle.rx_fiber.specs.Reading.{IsTreeOf}
use Rattle.rx_hook_store.specs.Store.{kept_hooks}
use Rattle.rx_pruned.specs.Besides.{IsBeside}
use Rattle.rx_pruned.specs.declared.beside.Beside.{Beside}
use Rattle.rx_settle.specs.Settling.{IsSettlingOf}
use Rattle.end_laws.specs.Trimmed.{trimmed, trimmed_if}
use Rattle.rx_render.specs.Rendering.{Rendering}

-- A render of the machine gave a node, and hooks are to be settled for it: the current tree of fibers is the committed one, the finished tree is that node with its numbers, and new instances have numbers from the first on.
pub record IsToSettle (p : Program) (trees : Trees Fiber) (kept : ℕ → Option (List Hook)) (first : ℕ) (lanes : Lanes) (cut : Cut) (s : State) (g : Progress) (x : Node) : Type 0 where
  pub current : IsTreeOf s.tree trees.current
  pub finished : IsTreeOf (Some (numbered s.numbers x).1) (grafted trees.draft)
  pub settling : IsSettlingOf p kept (trimmed_if s.tree) (trimmed (numbered s.numbers x).1) first lanes cut s g x

-- the commit of a finished render is at hand: its hooks are to be settled, and this is what is left of the committed tree and the finished one
pub record IsAtHand (s : State) (g : Progress) (x : Node) (first : ℕ) (b : Beside) (v : Rendering) : Type 0 where
  pub to_settle : IsToSettle v.program v.trees (kept_hooks v.hooks) first v.lanes v.cut s g x
  pub beside : IsBeside (trimmed_if s.tree) (trimmed (numbered s.numbers x).1) b
