-- What a report is judged to be.
use Rattle.std.specs.Prelude.{◌≡◌, ℕ, zero, suc, ◌+◌, List, [], ◌∷◌, ◌++◌, Option, Some, None, option_map, if◌then◌else◌}
use Rattle.rx_ast.specs.Syntax.{Program}
use Rattle.rx_step.specs.declared.step.Step.{Step}
use Rattle.choice_laws.specs.Telling.{counted}
use Rattle.rx_given.specs.Lines.{is_line_end}
use Rattle.rx_model.specs.Turns.{AnyRender}
use Rattle.rx_model.specs.Machine.{Reports}
use Rattle.rx_verify.specs.declared.verdict.Verdict.{Verdict}
use Rattle.rx_verify.specs.declared.verdict.Verdict.TheVariants.{Yes, No}

-- the bytes are the report of a run of the fresh machine
abbrev pub IsReported : Program → List Step → List ℕ → Type 0
IsReported p steps bytes = (bodies : ℕ) × Reports AnyRender p steps counted bytes bodies

-- the first so many lines of some bytes, each with its end, if there are so many whole ones
abbrev pub first_lines : (count : ℕ) → List ℕ → Option (List ℕ)
first_lines zero bytes = Some []
first_lines (suc k) [] = None
first_lines (suc k) (b ∷ bs) = option_map (λ front. b ∷ front) (first_lines (if is_line_end b then k else suc k) bs)

-- the report of some run begins with these bytes
abbrev pub Begins : Program → List Step → List ℕ → Type 0
Begins p steps front = (rest : List ℕ) × IsReported p steps (front ++ rest)

-- What a report is judged to be: the report of a run; or of none, and then the line with the least number, from 1, that no report of a run has behind the lines before it. If all whole lines of it begin the report of a run, that is the line behind them, which ends too early or is not there.
pub data IsVerdict (p : Program) (steps : List Step) (bytes : List ℕ) : Verdict → Type 0 where
  yes : IsReported p steps bytes → IsVerdict p steps bytes Yes
  no : (k : ℕ) (front : List ℕ) → first_lines k bytes ≡ Some front → Begins p steps front
      → ((more : List ℕ) → first_lines (k + 1) bytes ≡ Some more → Begins p steps more → ⊥)
      → (IsReported p steps bytes → ⊥) → IsVerdict p steps bytes (No (k + 1))
