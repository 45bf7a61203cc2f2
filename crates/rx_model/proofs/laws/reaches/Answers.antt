use Rattle.rx_model.proofs.Reached.{start-reached, runs-reach, discards-reach}
use Rattle.rx_model.proofs.laws.reaches.Goals as goal

pub returns-clause-start : goal.returns-clause-start
returns-clause-start c = start-reached

pub returns-clause-runs : goal.returns-clause-runs
returns-clause-runs c = runs-reach

pub returns-clause-discards : goal.returns-clause-discards
returns-clause-discards c = discards-reach
