use Rattle.choice_laws.proofs.Runs.{bodies_are_free, bodies_are_free_from_start}
use Rattle.choice_laws.proofs.laws.any_bodies_fit.Goals as goal

pub returns : goal.returns
returns c = record { anywhere = bodies_are_free; start = bodies_are_free_from_start }
