use Rattle.std.proofs.Common.{◌≡◌, length, drop}
use Rattle.std.specs.Cmp.Lexicographic.{pointwise}
use Rattle.rx_elem.specs.Elements.{same_attr}
use Rattle.rx_elem.proofs.attr.same_attrs.Given as goal

-- the lists are as long, and are equal exactly if they are from here on
abbrev pub invariant-loop-place : goal.invariant-loop-place
invariant-loop-place l =
    (length l.ours ≡ length l.theirs)
    × (pointwise same_attr l.ours l.theirs ≡ pointwise same_attr (drop l.place l.ours) (drop l.place l.theirs))
