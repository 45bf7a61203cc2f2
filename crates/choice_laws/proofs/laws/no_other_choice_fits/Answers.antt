use Rattle.choice_laws.proofs.Waits.{next_line_decides}
use Rattle.choice_laws.proofs.laws.no_other_choice_fits.Goals as goal

pub returns : goal.returns
returns c = next_line_decides
