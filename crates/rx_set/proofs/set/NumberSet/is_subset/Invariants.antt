use Rattle.std.proofs.Common.{◌≡◌, true, take}
use Rattle.std.specs.List.{list_all}
use Rattle.rx_set.specs.Sets.{holds}
use Rattle.rx_set.proofs.set.NumberSet.is_subset.Given as goal

-- the members so far are of the other set
abbrev pub invariant-comparing : goal.invariant-comparing
invariant-comparing l = list_all (holds l.other) (take l.place l.self) ≡ true
