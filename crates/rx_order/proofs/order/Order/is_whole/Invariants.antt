use Rattle.std.proofs.Common.{◌≡◌, ◌<◌, ℕ, true}
use Rattle.rx_order.specs.Graphs.{is_among}
use Rattle.rx_order.proofs.order.Order.is_whole.Given as goal

-- all numbers so far are there
abbrev pub invariant-loop-number : goal.invariant-loop-number
invariant-loop-number l = (x : ℕ) → x < l.number → is_among l.self x ≡ true
