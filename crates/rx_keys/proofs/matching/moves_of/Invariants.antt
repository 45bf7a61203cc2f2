use Rattle.std.proofs.Common.{◌≡◌, ◌≤◌, ◌^◌, ◌++◌, drop}
use Rattle.rx_keys.specs.Found.{moves_below}
use Rattle.rx_keys.proofs.matching.moves_of.Given as goal

-- the moves so far and those of the children from here on are all
abbrev pub invariant-loop-place : goal.invariant-loop-place
invariant-loop-place l =
    (moves_below 0 l.places ≡ l.moved.items ++ moves_below l.behind (drop l.place-index l.places)) × (l.behind ≤ 2 ^ 32)
