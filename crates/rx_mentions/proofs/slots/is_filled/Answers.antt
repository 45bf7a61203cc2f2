use Rattle.rx_mentions.proofs.Depths.{filled-true}
use Rattle.rx_mentions.proofs.slots.is_filled.Goals as goal

pub returns-in_default : goal.returns-in_default
returns-in_default c = filled-true c.args.children.now c.in_default.len_at_least
