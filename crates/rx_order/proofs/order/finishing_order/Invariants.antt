use Rattle.rx_order.specs.Graphs.{IsFinished}
use Rattle.rx_order.proofs.order.finishing_order.Given as goal

-- the numbers so far are finished in this order
abbrev pub invariant-loop-number : goal.invariant-loop-number
invariant-loop-number l = IsFinished l.graph l.order
