use Rattle.commit_laws.proofs.StillUntouched.{none_touched}
use Rattle.commit_laws.proofs.CalmLanes.{free_is_calm, none_owed}
use Rattle.commit_laws.proofs.laws.untouched_is_told.Goals as goal

pub returns : goal.returns
returns c =
    record {
      places = λ s at o levels before settled still fits. none_touched levels s at o before settled still fits;
      lanes = free_is_calm;
      owed = none_owed;
    }
