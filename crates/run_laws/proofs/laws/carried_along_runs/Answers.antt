use Rattle.run_laws.proofs.AlongRuns.{reached_carries, rests_on_settled}
use Rattle.commit_laws.proofs.Declared.{reads_declared}
use Rattle.run_laws.proofs.laws.carried_along_runs.Goals as goal

pub returns : goal.returns
returns c =
    record {
      carried = λ p bounded s reached. reached_carries p bounded.shallow bounded.declared s reached;
      rests = rests_on_settled;
      declared = reads_declared;
    }
