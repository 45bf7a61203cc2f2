-- For which states of the machine the hooks of an instance are shown.
use Rattle.std.specs.Prelude.{◌≡◌, ℕ, List, Option, Some, slice_get}
use Rattle.rx_ast.specs.Syntax.{Program}
use Rattle.rx_elem.specs.Spots.{Mounted, mounted}
use Rattle.rx_hooks.specs.declared.hook.Hook.{Hook}
use Rattle.rx_model.specs.HooksOf.{KeepsAllHooks}
use Rattle.rx_model.specs.State.{State}

-- a state has these instances, and what is kept stands for their hooks
pub record KeepsThese (p : Program) (s : State) (kept : ℕ → Option (List Hook)) (all : List Mounted) : Type 0 where
  pub are : all ≡ mounted s.tree
  pub keeps : KeepsAllHooks p s kept

-- a state has this instance, and what is kept stands for the hooks of all of its instances
pub record KeepsOne (p : Program) (s : State) (kept : ℕ → Option (List Hook)) (m : Mounted) : Type 0 where
  pub place : ℕ
  pub is_there : slice_get (mounted s.tree) place ≡ Some m
  pub keeps : KeepsAllHooks p s kept
