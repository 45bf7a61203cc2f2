use Rattle.std.proofs.Common.{length}
use Rattle.rx_eval.proofs.body.+with_props.Given as goal

abbrev pub decreases-with_props : goal.decreases-with_props
decreases-with_props l = length l.parameters.now
