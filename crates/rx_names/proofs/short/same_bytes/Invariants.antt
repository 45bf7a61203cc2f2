use Rattle.std.proofs.Common.{◌≡◌, length, drop}
use Rattle.std.specs.Prelude.{nat_eq}
use Rattle.std.specs.Cmp.Lexicographic.{pointwise}
use Rattle.rx_names.proofs.short.same_bytes.Given as goal

-- the texts are as long, and are the same exactly if they are from here on
abbrev pub invariant-loop-place : goal.invariant-loop-place
invariant-loop-place l =
    (length l.one ≡ length l.other)
    × (pointwise nat_eq l.one l.other ≡ pointwise nat_eq (drop l.place l.one) (drop l.place l.other))
