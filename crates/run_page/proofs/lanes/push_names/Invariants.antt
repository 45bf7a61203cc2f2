use Rattle.std.proofs.Common.{◌≡◌, ◌++◌, drop}
use Rattle.std.specs.Prelude.{flat_map}
use Rattle.rx_lane.specs.Lanes.{has, lanes_where}
use Rattle.run_page.specs.Facts.{name_behind}
use Rattle.run_page.proofs.Names.{names_left}
use Rattle.run_page.proofs.lanes.push_names.Given as goal

abbrev pub invariant-naming : goal.invariant-naming
invariant-naming l = l.text.items ++ names_left l.lanes (drop l.lane-index l.lane-items) ≡ l.fn.text.items ++ flat_map name_behind (lanes_where (has l.lanes))
