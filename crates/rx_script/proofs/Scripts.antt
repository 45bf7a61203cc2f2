-- Steps so far, and those of the lines that are left.
use Rattle.std.proofs.Common.{◌≡◌, ℕ, ◌+◌, List, [], ◌∷◌, ◌++◌, Result, Ok, Err, refl, append_assoc, ap, sym, ◌∙◌, length, ◌<◌, arith, append-nil, Option, Some, None}
use Rattle.std.specs.List.{slice_split}
use Rattle.std.specs.Str.Lines.{strip_carriage_return}
use Rattle.std.proofs.lemmas.List.Splits.{length-slice_split}
use Rattle.rx_base.specs.Values.{Text}
use Rattle.rx_ast.specs.Syntax.{Program}
use Rattle.rx_step.specs.declared.step.Step.{Step}
use Rattle.rx_script.specs.declared.script.ScriptError.{ScriptError}
use Rattle.rx_script.specs.declared.line.LineError.{LineError}
use Rattle.rx_script.specs.declared.line.LineError.TheVariants as line_error
use Rattle.rx_script.specs.Input.{is_line_end}
use Rattle.rx_script.specs.Words.{lines_of, whole_lines}
use Rattle.rx_script.specs.Lines.{BadStep, Fault, line_of, with_line, steps_from, steps_of, bad, good, bad_line, unknown_target, out_of_range}
use Rattle.rx_script.specs.Pieces.{IsCut}
use Rattle.rx_script.specs.Readings.{IsErrorAt, IsFault, Refuses, good_if, found_steps}

whole_lines-cons : (l : Text) (ps : List Text) → 0 < length ps → whole_lines (l ∷ ps) ≡ strip_carriage_return l ∷ whole_lines ps
whole_lines-cons l [] some = absurd (omega arith)
whole_lines-cons l (m ∷ more) some = refl

-- the first line ends at the first line end
pub lines-cut : (text piece after : List ℕ) → IsCut text piece after → lines_of text ≡ strip_carriage_return piece ∷ lines_of after
lines-cut text piece after cut =
    ap whole_lines cut.pieces
    ∙ whole_lines-cons piece (slice_split is_line_end after) (omega (arith, length-slice_split is_line_end after))

-- these steps before the others, if there are others
abbrev pub prepend : List Step → Result (List Step) BadStep → Result (List Step) BadStep
prepend steps (Ok others) = Ok (steps ++ others)
prepend steps (Err e) = Err e

pub prepend-nil : (rest : Result (List Step) BadStep) → prepend [] rest ≡ rest
prepend-nil (Ok others) = refl
prepend-nil (Err e) = refl

prepend-step : (steps : List Step) (step : Step) (number : ℕ) (rest : Result (List Step) BadStep)
    → prepend steps (with_line number (good step) rest) ≡ prepend (steps ++ step ∷ []) rest
prepend-step steps step number (Ok others) = ap Ok (sym (append_assoc steps (step ∷ []) others))
prepend-step steps step number (Err e) = refl

-- the first line of the rest is this step, or none
pub next-found : (p : Program) (number : ℕ) (text line after : List ℕ) (steps : List Step) (found : Option Step)
    → lines_of text ≡ line ∷ lines_of after → line_of p line ≡ good_if found
    → prepend steps (steps_from p number (lines_of text)) ≡ prepend (steps ++ found_steps found) (steps_from p (number + 1) (lines_of after))
next-found p number text line after steps None first is = rw (first, is, append-nil steps) refl
next-found p number text line after steps (Some step) first is =
    rw (first, is) (prepend-step steps step number (steps_from p (number + 1) (lines_of after)))

-- all steps are those of the lines
pub steps-start : (p : Program) (text : List ℕ) → steps_of p text ≡ prepend [] (steps_from p 1 (lines_of text))
unfolding steps_of
steps-start p text = sym (prepend-nil (steps_from p 1 (lines_of text)))

-- the first line of the rest is bad
next-bad : (p : Program) (number : ℕ) (text line after : List ℕ) (steps : List Step) (f : Fault) → lines_of text ≡ line ∷ lines_of after
    → line_of p line ≡ bad f → prepend steps (steps_from p number (lines_of text)) ≡ Err (record { fault = f; line = number })
next-bad p number text line after steps f first is = rw (first, is) refl

-- an error of the first line of the rest is one of the script
pub refused-at : (p : Program) (number : ℕ) (text line after : List ℕ) (steps : List Step) (whole : Result (List Step) BadStep) (e : LineError)
    (answer : ScriptError)
    → whole ≡ prepend steps (steps_from p number (lines_of text)) → lines_of text ≡ line ∷ lines_of after → IsFault e (line_of p line)
    → IsErrorAt number e answer → Refuses answer whole
refused-at p number text line after steps whole line_error.BadLine answer so_far first is at =
    rw at (so_far ∙ next-bad p number text line after steps bad_line first is)
refused-at p number text line after steps whole line_error.UnknownTarget answer so_far first is at =
    rw at (so_far ∙ next-bad p number text line after steps unknown_target first is)
refused-at p number text line after steps whole line_error.OutOfRange answer so_far first is at =
    rw at (so_far ∙ next-bad p number text line after steps out_of_range first is)
refused-at p number text line after steps whole line_error.OutOfMemory answer so_far first is at = rw at tt

-- no line is left
pub steps-end : (p : Program) (number : ℕ) (text : List ℕ) (steps : List Step) → length text ≡ 0
    → prepend steps (steps_from p number (lines_of text)) ≡ Ok steps
steps-end p number [] steps none = ap Ok (append-nil steps)
steps-end p number (b ∷ text) steps none = absurd (omega (arith, none))
