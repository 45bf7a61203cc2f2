use Rattle.std.proofs.Common.{◌≡◌, ◌++◌, map, drop}
use Rattle.rx_order.specs.Graphs.{leads, lead_round}
use Rattle.rx_order.proofs.graph.lead_round.Given as goal

-- what is computed and what is left make the whole
abbrev pub invariant-loop-row : goal.invariant-loop-row
invariant-loop-row l = l.next.items ++ map (leads l.target l.table) (drop l.row-index l.graph) ≡ lead_round l.graph l.target l.table
