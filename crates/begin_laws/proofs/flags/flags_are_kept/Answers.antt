use Rattle.begin_laws.proofs.Going.{completes, passes, opens, opens_beside}
use Rattle.begin_laws.proofs.Unwinding.{throws_out, unwinds}
use Rattle.begin_laws.proofs.flags.flags_are_kept.Goals as goal

pub returns : goal.returns
returns c = record { completes = completes; passes = passes; opens = opens; opens_beside = opens_beside; unwinds = unwinds; throws_out = throws_out }
