use Rattle.std.proofs.Common.{◌≡◌, ℕ, None, cond, nat_eq, take}
use Rattle.std.specs.List.{list_any}
use Rattle.rx_hook_store.specs.Store.{kept_hooks}
use Rattle.rx_settle.proofs.keeping.remove_all.Given as goal

-- the hooks of the instances so far are dropped
abbrev pub invariant-removing : goal.invariant-removing
invariant-removing l = (n : ℕ) → kept_hooks l.store n ≡ cond (list_any (nat_eq n) (take l.number-index l.gone)) None (kept_hooks l.initial.store n)
