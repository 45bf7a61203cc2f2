use Rattle.std.proofs.Common.{length}
use Rattle.rx_eval.proofs.body.+follow.Given as goal

abbrev pub decreases-follow : goal.decreases-follow
decreases-follow l = length l.statements.now
