use Rattle.rx_beside.proofs.SameReads.{versions_tell}
use Rattle.rx_beside.proofs.marks.are_same_versions.Goals as goal

pub returns : goal.returns
returns c = versions_tell c.args.old.now c.args.new.now c.eq.result c.eq.ensures
