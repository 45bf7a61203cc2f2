use Rattle.std.proofs.Common.{◌≡◌, ◌-◌, ◌++◌, length, filter}
use Rattle.std.specs.List.{range_with_len}
use Rattle.rx_keys.specs.Found.{gone_places, is_gone}
use Rattle.rx_keys.proofs.matching.removed_of_few.Given as goal

-- the places so far and those from here on are all
abbrev pub invariant-loop-place : goal.invariant-loop-place
invariant-loop-place l =
    gone_places l.old l.places ≡ l.removed.items ++ filter (is_gone l.old l.places) (range_with_len l.place (length l.old - l.place))
