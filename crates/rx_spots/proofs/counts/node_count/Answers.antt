use Rattle.std.proofs.Common.{arith, ap}
use Rattle.std.specs.Option.{option_copied}
use Rattle.rx_elem.specs.Spots.{at_root, node_count}
use Rattle.rx_spots.proofs.Counting.{length-spots}
use Rattle.rx_spots.proofs.counts.node_count.Goals as goal

pub returns-in-Some : goal.returns-in-Some
returns-in-Some c = omega (arith, length-spots at_root c.in-Some.node.now, ap (λ t. node_count (option_copied t)) c.in-Some.is)
