use Rattle.end_laws.proofs.Rendered.{rendered_same, waits_same, values_same}
use Rattle.end_laws.proofs.laws.ends_are_not_rendered.Goals as goal

pub returns : goal.returns
returns c = record { place = rendered_same; waits = waits_same; values = values_same }
