use Rattle.std.proofs.Common.{◌≡◌, ℕ, is_some, nat_eq, take}
use Rattle.std.specs.List.{list_any}
use Rattle.rx_host_ops.specs.Tables.{entry_in}
use Rattle.rx_host_ops.proofs.known.numbers_of.Given as goal

-- something is noted for the numbers so far
abbrev pub invariant-loop-number : goal.invariant-loop-number
invariant-loop-number l = (n : ℕ) → is_some (entry_in l.known n) ≡ list_any (nat_eq n) (take l.number-index l.numbers)
