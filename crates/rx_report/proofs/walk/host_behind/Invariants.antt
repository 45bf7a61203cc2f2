use Rattle.std.proofs.Common.{ℕ, List, reverse, length}
use Rattle.rx_forest.specs.Hosts.{Host}
use Rattle.rx_host.specs.Kept.{forest_kept}
use Rattle.rx_lines.specs.Lines.{Line}
use Rattle.rx_report.specs.Walks.{Behind}
use Rattle.rx_report.proofs.walk.host_behind.Given as goal

abbrev pub invariant-up : goal.invariant-up
invariant-up l = (level : ℕ) (left : List Host) (lines : List Line) → Behind (forest_kept l.hosts) (reverse l.fn.above.items) level l.fn.host left lines
    → (now : ℕ) × Behind (forest_kept l.hosts) (reverse l.above.items) now l.last left lines

abbrev pub decreases-up : goal.decreases-up
decreases-up l = length l.above.items
