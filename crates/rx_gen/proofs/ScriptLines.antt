-- The steps of texts of whole lines.
use Rattle.std.proofs.Common.{◌≡◌, ℕ, ◌+◌, ◌<◌, true, List, [], ◌∷◌, ◌++◌, length, refl, sym, ap, ◌∙◌, arith, append_assoc, Ok}
use Rattle.std.specs.List.{slice_split, flat_map}
use Rattle.std.specs.Str.Lines.{strip_carriage_return}
use Rattle.std.proofs.lemmas.List.Splits.{length-slice_split}
use Rattle.rx_base.specs.Values.{Text}
use Rattle.rx_step.specs.declared.step.Step.{Step}
use Rattle.rx_script.specs.Input.{is_line_end}
use Rattle.rx_script.specs.Words.{lines_of, whole_lines}
use Rattle.rx_script.specs.Lines.{good, line_of, steps_from, with_line}
use Rattle.rx_gen.specs.Meant.{generated_program}
use Rattle.rx_gen.proofs.Splitting.{without, split-at}

-- the line is this step of the generated program
pub record IsStepLine (line : Text) (s : Step) : Type 0 where
  pub unbroken : without is_line_end line ≡ true
  pub unstripped : strip_carriage_return line ≡ line
  pub meant : line_of generated_program line ≡ good s

-- the text is whole lines, and gives these steps before those of the text behind it
abbrev pub GivesSteps : Text → List Step → Type 0
GivesSteps text steps =
    (rest : Text) (more : List Step) → ((k : ℕ) → steps_from generated_program k (lines_of rest) ≡ Ok more)
    → (k : ℕ) → steps_from generated_program k (lines_of (text ++ rest)) ≡ Ok (steps ++ more)

-- nothing gives nothing
pub gives-none : GivesSteps [] []
gives-none rest more h k = h k

-- two texts give the steps of both
pub gives-both : (a b : Text) (xs ys : List Step) → GivesSteps a xs → GivesSteps b ys → GivesSteps (a ++ b) (xs ++ ys)
gives-both a b xs ys h g rest more then k =
    ap (λ (t : Text). steps_from generated_program k (lines_of t)) (append_assoc a b rest)
    ∙ (h (b ++ rest) (ys ++ more) (λ m. g rest more then m) k ∙ sym (ap (λ (ss : List Step). Ok ss) (append_assoc xs ys more)))

-- many texts give the steps of all
pub gives-each : (texts : ℕ → Text) (steps : ℕ → List Step) → ((j : ℕ) → GivesSteps (texts j) (steps j)) → (js : List ℕ) → GivesSteps (flat_map texts js) (flat_map steps js)
gives-each texts steps each [] = gives-none
gives-each texts steps each (j ∷ js) = gives-both (texts j) (flat_map texts js) (steps j) (flat_map steps js) (each j) (gives-each texts steps each js)

-- a line before others is stripped
stripped : (l : Text) (ps : List Text) → 0 < length ps → whole_lines (l ∷ ps) ≡ strip_carriage_return l ∷ whole_lines ps
stripped l [] some = absurd (omega arith)
stripped l (m ∷ ps) some = refl

-- the first line
line-first : (l rest : Text) (s : Step) → IsStepLine l s → lines_of (l ++ 10 ∷ rest) ≡ l ∷ lines_of rest
line-first l rest s h =
    ap whole_lines (split-at is_line_end l 10 rest h.unbroken refl)
    ∙ (stripped l (slice_split is_line_end rest) (omega (arith, length-slice_split is_line_end rest))
    ∙ ap (λ (t : Text). t ∷ lines_of rest) h.unstripped)

-- a line gives its step
pub gives-line : (l : Text) (s : Step) → IsStepLine l s → GivesSteps (l ++ 10 ∷ []) (s ∷ [])
gives-line l s h rest more then k =
    ap (λ (t : Text). steps_from generated_program k (lines_of t)) (append_assoc l (10 ∷ []) rest)
    ∙ (ap (steps_from generated_program k) (line-first l rest s h) ∙ (λ i. with_line k (h.meant i) (then (k + 1) i)))
