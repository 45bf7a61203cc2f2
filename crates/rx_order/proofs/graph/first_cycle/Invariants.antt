use Rattle.std.proofs.Common.{◌≡◌, drop}
use Rattle.rx_order.specs.Graphs.{cycle_names_from, cycle_names}
use Rattle.rx_order.specs.Graphs.{first}
use Rattle.rx_order.proofs.graph.first_cycle.Given as goal

-- the first is among the numbers that are left
abbrev pub invariant-loop-row : goal.invariant-loop-row
invariant-loop-row l =
    record {
      numbered : l.number ≡ l.row-index;
      left : first (cycle_names_from l.graph l.names l.number (drop l.row-index l.graph)) ≡ first (cycle_names l.graph l.names);
    }
