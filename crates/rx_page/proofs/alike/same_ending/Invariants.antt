use Rattle.std.proofs.Common.{length, drop, ◌-◌, ◌≡◌, ◌≤◌}
use Rattle.rx_page.proofs.alike.same_ending.Given as goal

abbrev pub invariant-bytes : goal.invariant-bytes
invariant-bytes l = record {
  in_old : l.count ≤ length l.old;
  in_new : l.count ≤ length l.new;
  lines : l.lines ≤ l.count;
  same : drop (length l.old - l.count) l.old ≡ drop (length l.new - l.count) l.new;
  same_lines : drop (length l.old - l.lines) l.old ≡ drop (length l.new - l.lines) l.new;
}

abbrev pub decreases-bytes : goal.decreases-bytes
decreases-bytes l = length l.old - l.count
