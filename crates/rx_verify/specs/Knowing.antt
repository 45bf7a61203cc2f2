-- What is known of the runs of a program.
use Rattle.std.specs.Prelude.{◌≡◌}
use Rattle.rx_ast.specs.Syntax.{Program}
use Rattle.rx_model.specs.State.{State, end_line}
use Rattle.rx_model.specs.Turns.{choice_of}
use Rattle.rx_model.specs.Laws.{IsBounded, Progresses, RunsReach}
use Rattle.choice_laws.specs.Choosing.{BodiesAreFree, FreeTurnsAreTaken, IsAmong, StepsAreAlike, TurnsAreFree}
use Rattle.choice_laws.specs.Telling.{CountsComeLast, FinishesTell, NextLineDecides}

-- The laws of the runs of a program that is accepted.
pub record Laws (p : Program) : Type 0 where
  pub bounded : IsBounded p
  pub progresses : Progresses p
  pub reach : RunsReach p
  -- what a turn may do does not hang on bodies
  pub free : TurnsAreFree p
  pub taken : FreeTurnsAreTaken p
  -- states that are the same but for bodies
  pub choice : (s t : State) → IsAmong s t → choice_of t ≡ choice_of s
  pub end : (s t : State) → IsAmong s t → end_line t ≡ end_line s
  pub alike : StepsAreAlike p
  pub bodies : BodiesAreFree p
  -- what the next line tells
  pub tells : FinishesTell
  pub last : CountsComeLast
  pub decides : NextLineDecides p
