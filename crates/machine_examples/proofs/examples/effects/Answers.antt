use Rattle.machine_examples.proofs.EffectsComputed.{change_and_removal, sync_runs_passive, default_is_not_sliced}
use Rattle.machine_examples.proofs.examples.effects.Goals as goal

pub returns : goal.returns
returns c = record { change_and_removal = change_and_removal; sync_runs_passive = sync_runs_passive; default_is_not_sliced = default_is_not_sliced }
