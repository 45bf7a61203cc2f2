-- Error boundaries: whether one has caught a value, and what it has once its children are tried (react.dev, Catching rendering errors with an error boundary).
use Rattle.std.specs.Prelude.{Bool, true, false, ℤ, Option, Some, None}
use Rattle.rx_catch.specs.declared.state.CatchState.{CatchState}
use Rattle.rx_catch.specs.declared.state.CatchState.TheVariants.{Fine, Caught}

-- the value that an error boundary has caught, if it has
abbrev pub caught_of : CatchState → Option ℤ
caught_of Fine = None
caught_of (Caught x) = Some x

-- an error boundary has caught a value
abbrev pub has_caught : CatchState → Bool
has_caught Fine = false
has_caught (Caught x) = true

-- what an error boundary is once its children are tried: one that has caught keeps its value, and else it catches what they throw; a new one is as one without
abbrev pub after : (old : CatchState) → (thrown : Option ℤ) → CatchState
after Fine None = Fine
after Fine (Some x) = Caught x
after (Caught x) thrown = Caught x
