use Rattle.std.proofs.Common.{◌≡◌, ◌≤◌, take}
use Rattle.rx_page.specs.Changes.{lines_in}
use Rattle.rx_page.proofs.changes.line_count.Given as goal

abbrev pub invariant-bytes : goal.invariant-bytes
invariant-bytes l = record {
  count : l.lines ≡ lines_in (take l.byte-index l.text);
  few : l.lines ≤ l.byte-index;
}
