use Rattle.choice_laws.proofs.Bodies.{turns_are_free}
use Rattle.choice_laws.proofs.Taken.{free_turns_are_taken}
use Rattle.choice_laws.proofs.laws.turns_but_for_bodies.Goals as goal

pub returns : goal.returns
returns c = record { free = turns_are_free; taken = free_turns_are_taken }
