-- What is said of the ends of units and of turns.
use Rattle.std.specs.Prelude.{ℕ}
use Rattle.rx_loop.specs.declared.work.Unit.{Unit}
use Rattle.rx_loop.specs.declared.work.Unit.TheVariants.{More, Last}
use Rattle.rx_loop.specs.declared.turn.Driven.{Driven}
use Rattle.rx_loop.specs.declared.turn.Driven.TheVariants.{Finished, Yielded}

-- one fact after the last unit, another if more are left
abbrev pub MatchUnit : Unit → (last : Type 0) → (more : Type 0) → Type 0
MatchUnit Last P Q = P
MatchUnit More P Q = Q

-- one fact about the units that a turn used if it finished, another if it yielded
abbrev pub MatchDriven : Driven → (finished : ℕ → Type 0) → (yielded : ℕ → Type 0) → Type 0
MatchDriven (Finished used) P Q = P used
MatchDriven (Yielded used) P Q = Q used
