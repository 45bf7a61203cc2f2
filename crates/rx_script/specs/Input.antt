-- An input: the text of a program, and a script behind the first line that is exactly `---`.
use Rattle.std.specs.Prelude.{ℕ, Bool, ◌==◌, List, [], ◌∷◌, ◌++◌, codes, bytes_eq, if◌then◌else◌}
use Rattle.std.specs.List.{slice_split, join_with_byte}
use Rattle.std.specs.Str.Lines.{strip_carriage_return}
use Rattle.rx_base.specs.Values.{Text}

-- the two parts of an input
pub record Input : Type 0 where
  pub program : Text
  pub script : List ℕ

-- the line between program and script
abbrev pub is_mark : Text → Bool
is_mark l = bytes_eq l (codes "---")

-- a line before the rest of the program
abbrev pub with_line : Text → Input → Input
with_line l i = record i { program = l ++ 10 ∷ i.program }

-- The parts of an input, from the pieces between line ends. The last piece has no line end, so it keeps a carriage return.
abbrev pub divided : List Text → Input
divided [] = record { program = []; script = [] }
divided (l ∷ []) = record { program = (if is_mark l then [] else l); script = [] }
divided (l ∷ m ∷ more) =
    if is_mark (strip_carriage_return l) then record { program = []; script = join_with_byte 10 (m ∷ more) } else with_line l (divided (m ∷ more))

-- a line end
abbrev pub is_line_end : ℕ → Bool
is_line_end b = b == 10

-- the parts of an input
unfoldable pub input_of : List ℕ → Input
input_of bytes = divided (slice_split is_line_end bytes)

-- Behind the script of an input, a report may stand: behind the next line that is exactly `---`.

-- the program and the script in front of a report
abbrev pub front_of : List ℕ → Input
front_of bytes = record { program = (input_of bytes).program; script = (input_of (input_of bytes).script).program }

-- the report; without a second such line it is empty
abbrev pub report_of : List ℕ → List ℕ
report_of bytes = (input_of (input_of bytes).script).script
