use Rattle.std.proofs.Common.{◌≡◌, ℕ, ℤ, drop, map}
use Rattle.std.specs.HashMap.{get}
use Rattle.rx_elem.specs.Identity.{at_key}
use Rattle.rx_keys.specs.IdentityView.{identity_seen}
use Rattle.rx_keys.specs.Found.{found_from, found_in, same_pair}
use Rattle.rx_keys.proofs.known.table_of.Given as goal

-- what the table has so far, with what comes from here on, is all
abbrev pub invariant-loop-place : goal.invariant-loop-place
invariant-loop-place l =
    (k : ℤ) (o : ℕ) → found_in (map identity_seen l.ids) (at_key k o) ≡ found_from (get same_pair l.table (k, o)) l.place (map identity_seen (drop l.place l.ids)) (at_key k o)
