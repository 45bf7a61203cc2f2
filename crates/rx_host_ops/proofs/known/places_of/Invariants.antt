use Rattle.std.proofs.Common.{◌≡◌, ℕ, nat_eq, drop}
use Rattle.std.specs.List.{position_from}
use Rattle.rx_host_ops.specs.Tables.{entry_in}
use Rattle.rx_host_ops.proofs.known.places_of.Given as goal

-- the table has the first place of each number from here on
abbrev pub invariant-loop-place : goal.invariant-loop-place
invariant-loop-place l = (n : ℕ) → entry_in l.places n ≡ position_from (λ h. nat_eq h.number n) l.place (drop l.place l.hosts)
