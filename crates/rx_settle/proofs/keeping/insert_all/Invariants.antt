use Rattle.std.proofs.Common.{◌≡◌, ℕ, ◌≤◌, length, vec_len}
use Rattle.rx_hook_store.specs.Store.{kept_hooks}
use Rattle.rx_settle.specs.Made.{kept_with}
use Rattle.rx_settle.proofs.keeping.insert_all.Given as goal

-- what is left to insert, over what is kept by now, is what is to be kept
abbrev pub invariant-inserting : goal.invariant-inserting
invariant-inserting l = record {
  same : (n : ℕ) → kept_with l.made.items (kept_hooks l.store) n ≡ kept_with l.initial.made.items (kept_hooks l.initial.store) n;
  room : length l.made.items ≤ l.store.spare;
}

abbrev pub decreases-inserting : goal.decreases-inserting
decreases-inserting l = vec_len l.made
