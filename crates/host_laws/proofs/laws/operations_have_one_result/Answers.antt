use Rattle.host_laws.proofs.OneResult.{replays_once}
use Rattle.host_laws.proofs.laws.operations_have_one_result.Goals as goal

pub returns : goal.returns
returns c = replays_once
