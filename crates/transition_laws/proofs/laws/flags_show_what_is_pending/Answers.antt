use Rattle.transition_laws.proofs.Shown.{flag_law, kept_flags}
use Rattle.transition_laws.proofs.laws.flags_show_what_is_pending.Goals as goal

pub returns : goal.returns
returns c = record { kept = kept_flags; law = flag_law }
