use Rattle.std.proofs.Common.{◌≡◌, ℕ, ◌&&◌, not, nat_eq, take}
use Rattle.rx_set.specs.Sets.{holds}
use Rattle.std.specs.List.{list_any}
use Rattle.rx_settle.proofs.gone.numbers_beside.Given as goal

-- the numbers so far that are not known are gone
abbrev pub invariant-leaving : goal.invariant-leaving
invariant-leaving l = (n : ℕ) → list_any (nat_eq n) l.gone.items ≡ (list_any (nat_eq n) (take l.number-index l.before) && not (holds l.known n))
