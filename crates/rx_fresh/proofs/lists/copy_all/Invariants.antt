use Rattle.std.proofs.Common.{◌≡◌, ◌≤◌, length, take}
use Rattle.std.specs.Vec.{vec_len, vec_capacity}
use Rattle.rx_fresh.proofs.lists.copy_all.Given as goal

-- the children so far, and room for the others
abbrev pub invariant-loop-place : goal.invariant-loop-place
invariant-loop-place l =
    (l.copies.items ≡ take l.place-index l.nodes)
    × ((vec_len l.copies ≡ l.place-index) × (length l.nodes ≤ vec_capacity l.copies))
