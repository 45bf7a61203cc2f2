-- What an input is found to be.
use Rattle.std.specs.Prelude.{ℕ, ◌≡◌, List, [], Ok, Err}
use Rattle.rx_base.specs.Values.{Text}
use Rattle.rx_ast.specs.Syntax.{Program}
use Rattle.rx_step.specs.declared.step.Step.{Step}
use Rattle.rx_script.specs.Input.{Input, input_of}
use Rattle.rx_script.specs.Lines.{BadStep, steps_of}
use Rattle.rx_accept.specs.declared.cause.Cause.{Cause}
use Rattle.rx_accept.specs.declared.verdict.Verdict.{Verdict}
use Rattle.rx_accept.specs.declared.verdict.Verdict.TheVariants as verdict
use Rattle.rx_accept.specs.Programs.{IsSoundText, IsCause}
use Rattle.rx_accept.specs.Lines.{program_line, script_line}

-- an input is accepted with a program and the steps of its script, or its program is refused with a line, or its script is
pub data Judgement : Type 0 where
  accepted : Program → List Step → Judgement
  program_refused : Text → Judgement
  script_refused : Text → Judgement

-- An input with these parts is this: accepted if its program text is that of a program that meets every check and no line of its script is bad; else refused, with the line that tells the first cause. The program is judged before the script.
abbrev pub AreJudged : Input → Judgement → Type 0
AreJudged parts (accepted p steps) = IsSoundText p parts.program × (steps_of p parts.script ≡ Ok steps)
AreJudged parts (program_refused line) = (c : Cause) × IsCause parts.program c × (line ≡ program_line c)
AreJudged parts (script_refused line) = (p : Program) × (bad : BadStep) × IsSoundText p parts.program × (steps_of p parts.script ≡ Err bad) × (line ≡ script_line bad)

-- the input is this, by its parts
abbrev pub IsJudged : List ℕ → Judgement → Type 0
IsJudged input j = AreJudged (input_of input) j

-- what a verdict says
abbrev pub judgement_of : Verdict → Judgement
judgement_of (verdict.Accepted p steps) = accepted p steps.items
judgement_of (verdict.ProgramRefused line) = program_refused line.items
judgement_of (verdict.ScriptRefused line) = script_refused line.items

-- the steps that an input is accepted with; a refused one has none
abbrev pub accepted_steps : Judgement → List Step
accepted_steps (accepted p steps) = steps
accepted_steps (program_refused line) = []
accepted_steps (script_refused line) = []
