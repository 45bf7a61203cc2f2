use Rattle.std.proofs.Common.{length, take, ◌-◌, ◌≡◌, ◌≤◌}
use Rattle.rx_page.proofs.alike.same_beginning.Given as goal

abbrev pub invariant-bytes : goal.invariant-bytes
invariant-bytes l = record {
  in_old : l.at ≤ length l.old;
  in_new : l.at ≤ length l.new;
  lines : l.lines ≤ l.at;
  same : take l.at l.old ≡ take l.at l.new;
}

abbrev pub decreases-bytes : goal.decreases-bytes
decreases-bytes l = length l.old - l.at
