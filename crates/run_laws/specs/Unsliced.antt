-- Scripts without sliced work, and what is said of the ends of their runs.
use Rattle.std.specs.Prelude.{◌≡◌, Bool, true, false, List}
use Rattle.std.specs.List.{AllByRecursion}
use Rattle.rx_ast.specs.Syntax.{Program}
use Rattle.rx_step.specs.declared.step.Step.{Step}
use Rattle.rx_step.specs.declared.step.Step.TheVariants as step
use Rattle.rx_lines.specs.Lines.{Options, report_bytes}
use Rattle.rx_model.specs.State.{State}
use Rattle.rx_model.specs.Stretch.{Stretch}
use Rattle.rx_model.specs.Turns.{OfRender}
use Rattle.rx_model.specs.Machine.{RunTo}

-- a step gives a slice of work to a render
abbrev pub is_work : Step → Bool
is_work (step.Dispatch d) = false
is_work (step.Resolve name x) = false
is_work (step.Tick n) = false
is_work (step.Work n) = true
is_work step.Flush = false
is_work step.FlushSync = false
is_work step.Passive = false
is_work step.Event = false
is_work step.State = false
is_work step.Tree = false

-- no step of a script gives a slice of work
abbrev pub AreUnsliced : List Step → Type 0
AreUnsliced steps = AllByRecursion (λ x. is_work x ≡ false) steps

-- two stretches end in the same state, and if a report shows no counts, they write the same bytes
pub record EndAlike (r q : Stretch) : Type 0 where
  pub after : r.after ≡ q.after
  pub bytes : (o : Options) → o.counts ≡ false → report_bytes o r.lines ≡ report_bytes o q.lines

-- Two runs of a script without sliced work, from the same state, end alike, whatever is asked of the renders of the first and of the second.
abbrev pub UnslicedLaw : (First Second : OfRender) → Program → Type 0
UnslicedLaw First Second p =
    (s : State) (steps : List Step) → AreUnsliced steps → (r q : Stretch) → RunTo First p s steps r → RunTo Second p s steps q → EndAlike r q
