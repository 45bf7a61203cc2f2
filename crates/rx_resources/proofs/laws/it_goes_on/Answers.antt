use Rattle.std.proofs.Common.{refl, true, false}
use Rattle.rx_resources.proofs.Counting.{refresh_kept, others_kept, resolved_kept, unresolved_kept}
use Rattle.rx_resources.proofs.laws.it_goes_on.Goals as goal

pub returns-clause-starts : goal.returns-clause-starts
returns-clause-starts c r = record { done = refl; asked = refl; values = refl }

pub returns-clause-refreshed : goal.returns-clause-refreshed
returns-clause-refreshed c = refresh_kept

pub returns-clause-others : goal.returns-clause-others
returns-clause-others c = others_kept

pub returns-clause-resolved : goal.returns-clause-resolved
returns-clause-resolved c = resolved_kept

pub returns-clause-unresolved : goal.returns-clause-unresolved
returns-clause-unresolved c = unresolved_kept
