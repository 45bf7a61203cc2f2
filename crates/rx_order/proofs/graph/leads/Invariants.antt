use Rattle.std.proofs.Common.{◌≡◌, drop}
use Rattle.rx_order.specs.Graphs.{leads}
use Rattle.rx_order.proofs.graph.leads.Given as goal

-- a way is looked for among the numbers that are left
abbrev pub invariant-loop-number : goal.invariant-loop-number
invariant-loop-number l = leads l.target l.table (drop l.number-index l.number-items) ≡ leads l.target l.table l.row
