use Rattle.rx_check.proofs.Accepting.{accepted}
use Rattle.rx_check.proofs.checking.check.Goals as goal

pub accept-requires-clause-accepted : goal.accept-requires-clause-accepted
accept-requires-clause-accepted c = accepted c.args.program c.in_ok-bounds.ensures.answers
