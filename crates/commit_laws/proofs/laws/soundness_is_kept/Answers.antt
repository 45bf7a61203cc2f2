use Rattle.commit_laws.proofs.Soundness.{commit_keeps, update_keeps, resolution_keeps, calm_is_still}
use Rattle.commit_laws.proofs.laws.soundness_is_kept.Goals as goal

pub returns : goal.returns
returns c = record { commit = commit_keeps; update = update_keeps; resolution = resolution_keeps; calm = calm_is_still }
