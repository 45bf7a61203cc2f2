use Rattle.choice_laws.proofs.Bodies.{among_itself, choice_same, end_same}
use Rattle.choice_laws.proofs.Runs.{steps_are_alike}
use Rattle.choice_laws.proofs.laws.same_but_for_bodies.Goals as goal

pub returns : goal.returns
returns c = record { itself = among_itself; choice = choice_same; end = end_same; steps = steps_are_alike }
