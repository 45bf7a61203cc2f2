-- What is written for an input.
use Rattle.std.specs.Prelude.{◌≡◌, ◌+◌, List, Option, codes, length}
use Rattle.std.specs.Io.KnownBytes.{Appends, Consumes, IsAtEnd}
use Rattle.rx_base.specs.Values.{Text}
use Rattle.rx_ast.specs.Syntax.{Program}
use Rattle.rx_step.specs.declared.step.Step.{Step}
use Rattle.rx_accept.specs.Judgements.{IsJudged, accepted, program_refused, script_refused}
use Rattle.fiber_view.specs.Pages.{IsPage}

-- a page of a program, its steps and the input was written
abbrev pub GivesPage : Program → List Step → (input : Text) → (old new : Option Text) → Type 0
GivesPage p steps input old new = (page : Text) × IsPage p steps input page × Appends old new page

-- the input is accepted, and a page of it was written
abbrev pub IsPageOf : (input : Text) → (old new : Option Text) → Type 0
IsPageOf input old new = (p : Program) × (steps : List Step) × IsJudged input (accepted p steps) × GivesPage p steps input old new

-- the program of the input is refused with the line that was written
abbrev pub RefusesProgram : (input : Text) → (old new : Option Text) → Type 0
RefusesProgram input old new = (line : Text) × IsJudged input (program_refused line) × Appends old new line

-- the script of the input is refused with the line that was written
abbrev pub RefusesScript : (input : Text) → (old new : Option Text) → Type 0
RefusesScript input old new = (line : Text) × IsJudged input (script_refused line) × Appends old new line

-- a source was read to its end, and this holds of what it gave
abbrev pub Reads : (old new : Option Text) → (Text → Type 0) → Type 0
Reads old new P = (input : Text) × Consumes old new input × IsAtEnd new × P input

-- one byte more than 8,388,608 was taken, and the line that says so was written
abbrev pub RefusesLength : (left_old left_new old new : Option Text) → Type 0
RefusesLength left_old left_new old new =
    (input : Text) × Consumes left_old left_new input × (length input ≡ 8388608 + 1) × Appends old new (codes "input over 8388608 bytes\n")
