-- The lines with which a render ends.
use Rattle.std.specs.Prelude.{◌≡◌, ℕ, ◌∷◌, [], ◌++◌, List, Some, true, false}
use Rattle.rx_lane.specs.Lanes.{Lanes}
use Rattle.rx_lines.specs.Lines.{Counts, Line, committed, counts_text, line_text}
use Rattle.rx_given.specs.Lines.{first_line}
use Rattle.choice_laws.specs.Telling.{IsFinishOf}

-- the number that a line tells, if it says that a render is committed, is this one
abbrev pub HasNumber : (commit : ℕ) → Line → Type 0
HasNumber commit (committed number lanes counts tree) = number ≡ commit
HasNumber commit l = Unit {0}

-- the first line of some bytes says that a render with these lanes is finished, with these counts
pub record TellsEnd (lanes : Lanes) (counts : Counts) (bytes : List ℕ) : Type 0 where
  pub line : List ℕ
  pub is_first : first_line bytes ≡ Some line
  pub said : Line
  pub says : IsFinishOf lanes counts said
  pub text : line ≡ line_text false said ++ counts_text true counts ++ 10 ∷ []

-- and if it says that it is committed, with this number
pub record TellsEndOf (commit : ℕ) (lanes : Lanes) (counts : Counts) (bytes : List ℕ) : Type 0 where
  pub tells : TellsEnd lanes counts bytes
  pub number : HasNumber commit tells.said
