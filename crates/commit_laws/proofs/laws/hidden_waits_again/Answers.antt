use Rattle.commit_laws.proofs.WaitsAgain.{attempt_waits_again}
use Rattle.commit_laws.proofs.Settling.{tree_seen}
use Rattle.commit_laws.proofs.SmallWaits.{waits_are_small}
use Rattle.commit_laws.proofs.ResourceLaws.{values_stay, resolutions_same, awaits_unresolved, still_waiting}
use Rattle.commit_laws.proofs.HiddenLaw.{commit_hides, untouched_waits}
use Rattle.commit_laws.proofs.laws.hidden_waits_again.Goals as goal

pub returns : goal.returns
returns c =
    record {
      attempt = λ s j lanes cut small same more resources levels p a agree waited unresolved. attempt_waits_again s j lanes cut small same more resources levels p a agree waited unresolved;
      commit = commit_hides;
      listed = tree_seen;
      small = waits_are_small;
      resources = values_stay;
      as_many = resolutions_same;
      awaits = awaits_unresolved;
      tested = still_waiting;
      untouched = λ s lanes cut visible kept apart grows new resolutions accounted opened small n cs key f es a ns own seen old_calm new_calm no_refresh more as_many no_throw unresolved.
          untouched_waits s lanes cut visible kept apart grows new resolutions accounted opened small n cs key f es a ns own seen old_calm new_calm no_refresh more as_many no_throw unresolved;
    }
