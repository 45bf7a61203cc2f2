-- The laws of flags, over the states that the scripts of a program come to.
use Rattle.std.specs.Prelude.{List, Option, IsTrue, ℕ}
use Rattle.std.specs.List.{AllByRecursion}
use Rattle.rx_ast.specs.Syntax.{Program}
use Rattle.rx_check.specs.Accepted.{IsAccepted}
use Rattle.rx_script.specs.Lines.{has_targets}
use Rattle.rx_model.specs.State.{State}
use Rattle.rx_model.specs.Stretch.{Stretch}
use Rattle.rx_model.specs.Accepting.{between_events}
use Rattle.rx_model.specs.Turns.{AnyRender, Turn}
use Rattle.rx_model.specs.Laws.{IsBounded, IsReachedBy, Move, begins, discards, refreshes, sends, takes}
use Rattle.transition_laws.specs.Flags.{FlagsAreKept, FlagsShow}

-- Moves that fit a program

-- a move fits a program: a step that names what is there is taken, or the render in progress is discarded
abbrev pub Fits : Program → Move → Type 0
Fits p (takes x) = IsTrue (has_targets p x)
Fits p discards = Unit {0}
Fits p (begins started) = ⊥
Fits p (sends w path k o) = ⊥
Fits p (refreshes w r) = ⊥

-- a state can be reached by moves that fit
abbrev pub IsReachedFitting : Program → State → Type 0
IsReachedFitting p s = (moves : List Move) × AllByRecursion (Fits p) moves × IsReachedBy p moves s

-- turns lead from a state to another
pub data TurnsTo (p : Program) (s : State) : State → Type 0 where
  here : TurnsTo p s s
  further : (t : State) (budget : Option ℕ) (r : Stretch) → TurnsTo p s t → Turn AnyRender p t budget r → TurnsTo p s r.after

-- The laws

-- of a program that is accepted, a fact holds in each state that is reached by moves that fit, and after each turn of a next step
abbrev pub AlwaysFitting : Program → (State → Type 0) → Type 0
AlwaysFitting p fact =
    IsAccepted p → IsBounded p → (s : State) → IsReachedFitting p s → fact s × ((t : State) → TurnsTo p (between_events s) t → fact t)

-- what is kept of flags holds always
abbrev pub KeptFlags : Program → Type 0
KeptFlags p = AlwaysFitting p (FlagsAreKept p)

-- After each commit, those within a step too, each flag of a visible instance shows exactly whether a started transition of it is pending.
abbrev pub FlagLaw : Program → Type 0
FlagLaw p = AlwaysFitting p (FlagsShow p)
