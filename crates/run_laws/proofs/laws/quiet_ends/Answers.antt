use Rattle.run_laws.proofs.QuietEnds.{quiet_shows}
use Rattle.run_laws.proofs.laws.quiet_ends.Goals as goal

pub returns : goal.returns
returns c = quiet_shows
