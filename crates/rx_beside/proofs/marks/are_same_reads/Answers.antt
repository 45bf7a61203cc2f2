use Rattle.rx_beside.proofs.SameReads.{contexts_tell}
use Rattle.rx_beside.proofs.marks.are_same_reads.Goals as goal

pub returns : goal.returns
returns c = contexts_tell c.args.old.now c.args.new.now c.eq.result c.eq.ensures
