use Rattle.std.proofs.Common.{◌≡◌, ◌++◌, ℤ, take, drop, map, unwrap_or}
use Rattle.std.specs.Prelude.{count_by}
use Rattle.std.specs.Ordering.{int_eq}
use Rattle.std.specs.HashMap.{get}
use Rattle.rx_elem.specs.Identity.{has_key, identities, identities_after}
use Rattle.rx_keys.specs.IdentityView.{identity_seen}
use Rattle.rx_keys.proofs.identity.identities.Given as goal

-- the identities so far and those from here on are all; the table counts the keys so far
abbrev pub invariant-loop-place : goal.invariant-loop-place
invariant-loop-place l =
    (identities l.children ≡ map identity_seen l.ids.items ++ identities_after (take l.place l.children) (drop l.place l.children))
    × ((k : ℤ) → unwrap_or (get int_eq l.counts k) 0 ≡ count_by (has_key k) (take l.place l.children))
