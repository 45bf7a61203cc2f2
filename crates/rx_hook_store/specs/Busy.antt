-- Which instances are listed as having queued updates.
use Rattle.std.specs.Prelude.{ℕ, Bool, ◌||◌}
use Rattle.rx_set.specs.Sets.{holds}
use Rattle.rx_hook_store.specs.declared.busy.Busy.{Busy}

-- an instance is listed, or all are
abbrev pub is_listed : Busy → ℕ → Bool
is_listed busy n = busy.all || holds busy.numbers n
