use Rattle.rx_mentions.proofs.Depths.{length_exprs_of}
use Rattle.rx_mentions.proofs.walk.Walk.call_of.Goals as goal

pub returns : goal.returns
returns c = rw (length_exprs_of c.args.arguments.now) c.call.ensures
