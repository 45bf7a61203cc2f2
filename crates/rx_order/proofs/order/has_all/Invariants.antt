use Rattle.std.proofs.Common.{◌≡◌, drop}
use Rattle.std.specs.List.{list_all}
use Rattle.rx_order.specs.Graphs.{is_among}
use Rattle.rx_order.proofs.order.has_all.Given as goal

-- what is asked of all is asked of those that are left
abbrev pub invariant-loop-number : goal.invariant-loop-number
invariant-loop-number l = list_all (is_among l.order) (drop l.number-index l.numbers) ≡ list_all (is_among l.order) l.numbers
