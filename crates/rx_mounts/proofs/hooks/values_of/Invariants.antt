use Rattle.std.proofs.Common.{◌≡◌, take}
use Rattle.rx_ast.specs.Syntax.{Program}
use Rattle.rx_hook_store.specs.Store.{kept_hooks}
use Rattle.rx_model.specs.State.{State, committed_values}
use Rattle.rx_mounts.specs.Shown.{KeepsOne}
use Rattle.rx_mounts.proofs.hooks.values_of.Given as goal

-- the values so far are the first
abbrev pub invariant-reading : goal.invariant-reading
invariant-reading l =
    (p : Program) (s : State) → KeepsOne p s (kept_hooks l.hooks) l.instance → l.values.items ≡ take l.place (committed_values p s.journal l.instance)
