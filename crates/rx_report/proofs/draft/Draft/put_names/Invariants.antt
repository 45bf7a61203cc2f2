use Rattle.std.proofs.Common.{◌≡◌, drop}
use Rattle.std.specs.Prelude.{map, codes}
use Rattle.rx_lane.specs.Lanes.{has, lanes_where}
use Rattle.rx_lines.specs.Lines.{lane_name}
use Rattle.rx_report.proofs.Joins.{Joins, names_left}
use Rattle.rx_report.proofs.draft.Draft.put_names.Given as goal

abbrev pub invariant-naming : goal.invariant-naming
invariant-naming l = record {
  done : l.self.done ≡ l.fn.self.done;
  names : Joins l.self.begun l.fn.self.begun l.first (codes "+") (map lane_name (lanes_where (has l.lanes))) (names_left l.lanes (drop l.lane-index l.lane-items));
}
