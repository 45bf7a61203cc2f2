use Rattle.std.proofs.Common.{◌≤◌, ◌-◌, vec_len}
use Rattle.rx_host.proofs.tree.fill.Given as goal

abbrev pub decreases-cells : goal.decreases-cells
decreases-cells l = l.wanted - vec_len l.cells

abbrev pub invariant-cells : goal.invariant-cells
invariant-cells l = vec_len l.fn.cells ≤ vec_len l.cells
