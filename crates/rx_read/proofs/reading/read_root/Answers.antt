use Rattle.rx_read.proofs.Trims.{last_is}
use Rattle.rx_read.proofs.reading.read_root.Goals as goal

pub returns-in-Some : goal.returns-in-Some
returns-in-Some c x tree = last_is _ _ _ x _ c.in_ok-nodes.ensures tree c.in-Some.ensures.items
