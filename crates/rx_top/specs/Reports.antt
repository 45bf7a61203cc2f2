-- Reports: whole ones, and those that are cut off by a fault or when out of memory.
use Rattle.std.specs.Prelude.{ℕ, ◌≡◌, ◌+◌, ◌⊎◌, List, [], ◌∷◌, ◌++◌, IsTrue}
use Rattle.rx_io.specs.Whole.{IsPartOf}
use Rattle.rx_ast.specs.Syntax.{Program}
use Rattle.rx_step.specs.declared.step.Step.{Step}
use Rattle.rx_lines.specs.Lines.{Options, report_bytes}
use Rattle.rx_model.specs.State.{State, opening, is_quiet, end_line}
use Rattle.rx_model.specs.Stretch.{Stretch}
use Rattle.rx_model.specs.Turns.{OfRender, AnyRender}
use Rattle.rx_model.specs.Machine.{StepTo, RunTo, Reports}
use Rattle.rx_model.specs.Breaking.{RunBreaksOff}
use Rattle.rx_model.specs.Laws.{ShowsEverything}
use Rattle.rx_root.specs.Paying.{Pays}

-- The bytes are the report of a run of the fresh machine, with what is asked of each of its renders, and the run evaluates so many bodies. If its end is quiet, every hook and the whole tree show all updates.
pub record IsReport (Asked : OfRender) (p : Program) (steps : List Step) (options : Options) (bytes : List ℕ) (bodies : ℕ) : Type 0 where
  pub reports : Reports Asked p steps options bytes bodies
  pub quiet : IsTrue (is_quiet reports.run.whole.after) → ShowsEverything p reports.run.whole.after

-- the bytes begin the report of a run
abbrev pub BeginsReport : Program → List Step → Options → List ℕ → Type 0
BeginsReport p steps options part = (rest : List ℕ) × (bodies : ℕ) × IsReport AnyRender p steps options (part ++ rest) bodies

-- If the sink fails

-- From a state, some steps of a script are taken, one after another, and so is the next one. The bytes are all lines of those before it, and a part of its own lines; the bodies are those of both.
pub record StepLosesLines (Asked : OfRender) (p : Program) (s : State) (steps : List Step) (options : Options) (part : List ℕ) (bodies : ℕ) : Type 0 where
  pub before : List Step
  pub last : Step
  pub behind : List Step
  pub steps_are : steps ≡ before ++ last ∷ behind
  pub taken : Stretch
  pub runs : RunTo Asked p s before taken
  pub lost : Stretch
  pub takes : StepTo Asked p taken.after last lost
  pub begun : List ℕ
  pub is_part : IsPartOf begun (report_bytes options lost.lines)
  pub part_is : part ≡ report_bytes options taken.lines ++ begun
  pub bodies_are : bodies ≡ taken.bodies + lost.bodies

-- From a state, all steps of a script are taken. The bytes are all their lines, and a part of the end line; the bodies are theirs.
pub record EndLosesLine (Asked : OfRender) (p : Program) (s : State) (steps : List Step) (options : Options) (part : List ℕ) (bodies : ℕ) : Type 0 where
  pub taken : Stretch
  pub runs : RunTo Asked p s steps taken
  pub begun : List ℕ
  pub is_part : IsPartOf begun (report_bytes options (end_line taken.after ∷ []))
  pub part_is : part ≡ report_bytes options taken.lines ++ begun
  pub bodies_are : bodies ≡ taken.bodies

-- A report of a program and its steps from the start, cut off when the sink fails: the lines of each step are written before the next one is taken. It begins a whole report.
pub record IsLostReport (p : Program) (steps : List Step) (options : Options) (part : List ℕ) (bodies : ℕ) : Type 0 where
  pub begins : BeginsReport p steps options part
  pub loses : StepLosesLines Pays p opening steps options part bodies ⊎ EndLosesLine Pays p opening steps options part bodies

-- If memory runs out

-- From a state, some steps of a script are taken, and the next one breaks off. The bytes are all lines of those before it, and the bodies are those of both.
pub record StepBreaksOff (Asked : OfRender) (p : Program) (s : State) (steps : List Step) (options : Options) (part : List ℕ) (bodies : ℕ) : Type 0 where
  pub whole : Stretch
  pub breaks : RunBreaksOff Asked p s steps whole
  pub part_is : part ≡ report_bytes options breaks.taken.lines
  pub bodies_are : bodies ≡ whole.bodies

-- From a state, all steps of a script are taken. The bytes are all their lines, and the bodies are theirs.
pub record EndBreaksOff (Asked : OfRender) (p : Program) (s : State) (steps : List Step) (options : Options) (part : List ℕ) (bodies : ℕ) : Type 0 where
  pub taken : Stretch
  pub runs : RunTo Asked p s steps taken
  pub part_is : part ≡ report_bytes options taken.lines
  pub bodies_are : bodies ≡ taken.bodies

-- what is written of a program and its steps from the start if memory runs out within a step, or behind the last one
abbrev pub BreaksOffAt : Program → List Step → Options → (part : List ℕ) → (bodies : ℕ) → Type 0
BreaksOffAt p steps options part bodies = StepBreaksOff Pays p opening steps options part bodies ⊎ EndBreaksOff Pays p opening steps options part bodies

-- A report of a program and its steps from the start, cut off when memory runs out. It begins a whole report.
pub record IsShortReport (p : Program) (steps : List Step) (options : Options) (part : List ℕ) (bodies : ℕ) : Type 0 where
  pub begins : BeginsReport p steps options part
  pub breaks : BreaksOffAt p steps options part bodies
