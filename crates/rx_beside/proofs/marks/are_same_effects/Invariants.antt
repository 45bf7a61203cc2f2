use Rattle.std.proofs.Common.{◌≡◌, length, take}
use Rattle.rx_beside.proofs.marks.are_same_effects.Given as goal

-- they are as many, and the same so far
abbrev pub invariant-comparing : goal.invariant-comparing
invariant-comparing l = record {
  even : length l.old ≡ length l.new;
  same : take l.place l.old ≡ take l.place l.new;
}
