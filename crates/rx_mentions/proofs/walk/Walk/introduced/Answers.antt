use Rattle.std.proofs.Common.{sym}
use Rattle.rx_mentions.proofs.walk.Walk.introduced.Goals as goal

pub returns : goal.returns
returns c = rw (sym c.contains-again.ensures) c.note.ensures
