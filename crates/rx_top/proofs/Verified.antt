-- What `run --counts` writes is accepted by `verify`.
use Rattle.std.proofs.Common.{◌≡◌, ◌∙◌, ◌≤◌, ℕ, List, [], ◌∷◌, ◌++◌, true, false, length, ap, append_assoc, refl, subst, sym}
use Rattle.std.specs.Prelude.{codes}
use Rattle.rx_ast.specs.Syntax.{Program}
use Rattle.rx_step.specs.declared.step.Step.{Step}
use Rattle.rx_lines.specs.Lines.{Options}
use Rattle.rx_script.specs.Input.{Input, front_of, input_of, report_of}
use Rattle.rx_script.specs.Marks.{AreLines}
use Rattle.rx_accept.specs.Judgements.{AreJudged, IsJudged, accepted}
use Rattle.rx_model.specs.State.{opening}
use Rattle.rx_model.specs.Machine.{Reports}
use Rattle.rx_model.specs.Turns.{AnyRender}
use Rattle.rx_model.proofs.AskingLess.{any-run}
use Rattle.rx_root.specs.Paying.{Pays}
use Rattle.rx_verify.specs.declared.verdict.Verdict.TheVariants.{Yes}
use Rattle.rx_verify.specs.Verdicts.{IsReported, yes}
use Rattle.rx_words.specs.declared.task.Reading.TheVariants.{Run, Verify}
use Rattle.rx_top.specs.declared.status.Status.TheVariants.{Done}
use Rattle.rx_top.specs.Outcome.{IsDue, IsWork, judged, limit}

-- counts, without operations
abbrev with_counts : Options
with_counts = record { counts = true; ops = false }

-- the report of a run whose renders pay is that of a run
less : (p : Program) (steps : List Step) (bytes : List ℕ) (bodies : ℕ) → Reports Pays p steps with_counts bytes bodies → Reports AnyRender p steps with_counts bytes bodies
less p steps bytes bodies r = record {
  lines = r.lines;
  run = record {
    whole = r.run.whole;
    runs = any-run Pays p opening steps r.run.whole r.run.runs;
    lines_are = r.run.lines_are;
    bodies_are = r.run.bodies_are;
  };
  bytes_are = r.bytes_are;
}

pub is-verified : (input whole : List ℕ) (p : Program) (steps : List Step) (text : List ℕ) (bodies : ℕ) → IsJudged input (accepted p steps)
    → IsWork (Run true false) Done p steps [] text bodies → front_of whole ≡ input_of input → report_of whole ≡ text → length whole ≤ limit
    → IsDue (codes "verify" ∷ []) whole Done
is-verified input whole p steps text bodies found (is, work) front report within =
    let reported : IsReported p steps (report_of whole) = subst (λ l. IsReported p steps l) (sym report) (bodies, less p steps text bodies work.reports) in
    judged Verify (accepted p steps) Done refl within (subst (λ (parts : Input). AreJudged parts (accepted p steps)) (sym front) found) (Yes, yes reported, refl)

-- a line `---` behind whole lines of which none is one parts an input there
abbrev pub PartsLaw : Type 0
PartsLaw = (front rest : List ℕ) → AreLines front → input_of (front ++ codes "---\n" ++ rest) ≡ record { program = front; script = rest }

pub joined-verified : PartsLaw → (program script report : List ℕ) (p : Program) (steps : List Step) (bodies : ℕ) → AreLines program → AreLines script
    → IsJudged (program ++ codes "---\n" ++ script) (accepted p steps) → IsWork (Run true false) Done p steps [] report bodies
    → length (program ++ codes "---\n" ++ script ++ codes "---\n" ++ report) ≤ limit
    → IsDue (codes "verify" ∷ []) (program ++ codes "---\n" ++ script ++ codes "---\n" ++ report) Done
joined-verified law program script report p steps bodies first second found work within =
    let input = program ++ codes "---\n" ++ script in
    let whole = program ++ codes "---\n" ++ script ++ codes "---\n" ++ report in
    let seam : whole ≡ program ++ codes "---\n" ++ (script ++ codes "---\n" ++ report) =
    append_assoc (program ++ codes "---\n" ++ script) (codes "---\n") report ∙ append_assoc (program ++ codes "---\n") script (codes "---\n" ++ report)
    ∙ ap (λ l. program ++ codes "---\n" ++ l) (sym (append_assoc script (codes "---\n") report)) in
    let one = ap input_of seam ∙ law program (script ++ codes "---\n" ++ report) first in
    let two = law script report second in
    let front : front_of whole ≡ input_of input =
    ap (λ (i : Input). record { program = i.program; script = (input_of i.script).program }) one ∙ ap (λ (i : Input). record { program = program; script = i.program }) two ∙ sym (law program script first) in
    let behind : report_of whole ≡ report = ap (λ (i : Input). (input_of i.script).script) one ∙ ap (λ (i : Input). i.script) two in
    is-verified input whole p steps report bodies found work front behind within
