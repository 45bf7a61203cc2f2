use Rattle.std.proofs.Common.{◌≡◌, ◌∙◌, ◌<◌, ◌^◌, ⊎_elim, List, ap, length, refl, subst, sym}
use Rattle.std.proofs.lemmas.Result.{IfOk-weaker, on_err_weaker}
use Rattle.rx_base.specs.Values.{Text}
use Rattle.rx_ast.specs.Syntax.{Program}
use Rattle.rx_step.specs.declared.step.Step.{Step}
use Rattle.rx_script.specs.Input.{input_of}
use Rattle.rx_accept.specs.Judgements.{IsJudged, accepted, judgement_of, program_refused, script_refused}
use Rattle.rx_gen.specs.Meant.{generated_program, generated_steps}
use Rattle.rx_top.proofs.Due.{summary-short}
use Rattle.rx_top.proofs.Sizes.{generated-size}
use Rattle.rx_top.proofs.summary.summarize.Goals as goal

pub accept-requires : goal.accept-requires
accept-requires g c =
    subst (λ l. length l < 2 ^ 32) (sym (c.deref.ensures.value ∙ c.in_ok-input.ensures)) (generated-size c.args.rounds c.requires)

pub summarize_accepted-requires-clause-fits : goal.summarize_accepted-requires-clause-fits
summarize_accepted-requires-clause-fits g c =
    let judged : IsJudged c.deref.result.now (accepted c.in-Accepted.checked c.in-Accepted.script.items) =
    subst (λ v. IsJudged c.deref.result.now (judgement_of v)) c.in-Accepted.is c.in_ok-checked.ensures.judged in
    rw c.deref-in-Accepted.ensures.value (c.steps_can_be_taken.ensures.script c.in-Accepted.checked (input_of c.deref.result.now).script c.in-Accepted.script.items judged.1)

pub returns-clause-ok : goal.returns-clause-ok
returns-clause-ok g c =
    let judged : IsJudged c.deref.result.now (accepted c.in-Accepted.checked c.in-Accepted.script.items) =
    subst (λ v. IsJudged c.deref.result.now (judgement_of v)) c.in-Accepted.is c.in_ok-checked.ensures.judged in
    let made = subst (λ l. IsJudged l (accepted c.in-Accepted.checked c.in-Accepted.script.items)) (c.deref.ensures.value ∙ c.in_ok-input.ensures) judged in
    IfOk-weaker c.summarize_accepted.result _ _ (λ line sums. (
      sums.whole.bodies,
      record {
        program = c.in-Accepted.checked;
        steps = c.in-Accepted.script.items;
        generated = made;
        whole = sums.whole;
        runs = sums.runs;
        text_is = sums.text_is;
        bodies_are = refl;
      },
      sums.counted,
    )) (rw c.deref-in-Accepted.ensures.value at c.summarize_accepted.ensures.ok)

pub returns-clause-short : goal.returns-clause-short
returns-clause-short g c =
    let judged : IsJudged c.deref.result.now (accepted c.in-Accepted.checked c.in-Accepted.script.items) =
    subst (λ v. IsJudged c.deref.result.now (judgement_of v)) c.in-Accepted.is c.in_ok-checked.ensures.judged in
    let made = subst (λ l. IsJudged l (accepted c.in-Accepted.checked c.in-Accepted.script.items)) (c.deref.ensures.value ∙ c.in_ok-input.ensures) judged in
    on_err_weaker c.summarize_accepted.result (summary-short c.args.rounds c.in-Accepted.checked c.in-Accepted.script.items _ _ made) (rw c.deref-in-Accepted.ensures.value at c.summarize_accepted.ensures.short)

-- what is accepted is not refused
program-stands : (p : Program) (steps : List Step) (line : Text) → accepted p steps ≡ program_refused line → ⊥
program-stands p steps line e = cc

script-stands : (p : Program) (steps : List Step) (line : Text) → accepted p steps ≡ script_refused line → ⊥
script-stands p steps line e = cc

pub unreachable-requires : goal.unreachable-requires
unreachable-requires g c =
    let judged : IsJudged c.deref.result.now (accepted generated_program (generated_steps c.args.rounds)) =
    subst (λ l. IsJudged l (accepted generated_program (generated_steps c.args.rounds))) (sym (c.deref.ensures.value ∙ c.in_ok-input.ensures)) (c.generated_input_is_accepted.ensures.judged c.args.rounds) in
    let same : accepted generated_program (generated_steps c.args.rounds) ≡ judgement_of c.in_ok-checked.field-0 =
    c.in_ok-checked.ensures.only (accepted generated_program (generated_steps c.args.rounds)) judged in
    ⊎_elim (λ r. program-stands _ _ _ (same ∙ ap judgement_of r.1)) (λ r. script-stands _ _ _ (same ∙ ap judgement_of r.1)) c.in-ProgramRefused.is
