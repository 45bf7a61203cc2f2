use Rattle.std.proofs.Common.{◌≡◌, ◌≤◌, take}
use Rattle.rx_given.specs.Lines.{ends_in}
use Rattle.rx_given.proofs.passing.ends_in.Given as goal

-- the ends so far
abbrev pub invariant-bytes : goal.invariant-bytes
invariant-bytes l = record {
  value : l.ends ≡ ends_in (take l.at l.bytes);
  few : l.ends ≤ l.at;
}
