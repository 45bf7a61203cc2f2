use Rattle.rx_verify.proofs.Verdicts.{one_verdict}
use Rattle.rx_verify.proofs.laws.verdict_is_one.Goals as goal

pub returns : goal.returns
returns c = one_verdict
