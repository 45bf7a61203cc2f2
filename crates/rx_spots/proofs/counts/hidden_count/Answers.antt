use Rattle.std.proofs.Common.{arith, ap}
use Rattle.std.specs.Option.{option_copied}
use Rattle.rx_elem.specs.Spots.{at_root, hidden_count}
use Rattle.rx_spots.proofs.Counting.{hidden_among-spots}
use Rattle.rx_spots.proofs.counts.hidden_count.Goals as goal

pub returns-in-Some : goal.returns-in-Some
returns-in-Some c = omega (arith, hidden_among-spots at_root c.in-Some.node.now, ap (λ t. hidden_count (option_copied t)) c.in-Some.is)
