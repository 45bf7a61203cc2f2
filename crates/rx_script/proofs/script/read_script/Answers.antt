use Rattle.std.proofs.Common.{arith, rules, ◌≡◌, ◌+◌, ◌∙◌, List, ap, sym, subst}
use Rattle.rx_step.specs.declared.step.Step.{Step}
use Rattle.rx_script.specs.Words.{lines_of}
use Rattle.rx_script.specs.Lines.{line_of, steps_from}
use Rattle.rx_script.specs.Readings.{IsFault, good_if}
use Rattle.rx_script.proofs.Scripts.{steps-start, next-found, prepend, refused-at}
use Rattle.rx_script.proofs.script.read_script.Goals as goal

pub lines-init : goal.lines-init
lines-init c = record {
  so_far = rw c.new-steps.ensures.items (steps-start c.args.checked.now c.args.text.now);
  same = search rules;
  few = omega arith;
  steps_few = rw c.new-steps.ensures.items (omega arith);
}

pub lines-preserved : goal.lines-preserved
lines-preserved c =
    let line = c.first_line.result.0.now in
    let is : line_of c.args.checked.now line ≡ good_if c.in-Ok.found =
    subst (λ p. line_of p line ≡ good_if c.in-Ok.found) c.lines.invariant.same c.in-Ok.ensures.read in
    record {
      so_far = c.lines.invariant.so_far
          ∙ next-found c.args.checked.now c.lines.number c.lines.rest.now c.first_line.result.0.now c.first_line.result.1.now c.lines.steps.items c.in-Ok.found c.first_line.ensures.lines is
          ∙ ap (λ (l : List Step). prepend l (steps_from c.args.checked.now (c.lines.number + 1) (lines_of c.first_line.result.1.now))) (sym c.in_ok-push_found.ensures.ok);
      same = search rules;
      few = omega (arith, c.lines.invariant.few, c.first_line.ensures.shorter);
      steps_few = omega (arith, c.lines.invariant.steps_few, c.first_line.ensures.shorter, c.in_ok-push_found.ensures.few);
    }

pub returns-in-Err-clause-read : goal.returns-in-Err-clause-read
returns-in-Err-clause-read c =
    let line = c.first_line.result.0.now in
    let fault : IsFault c.in-Err.error (line_of c.args.checked.now line) =
    subst (λ p. IsFault c.in-Err.error (line_of p line)) c.lines.invariant.same c.in-Err.ensures.read in
    refused-at c.args.checked.now c.lines.number c.lines.rest.now line c.first_line.result.1.now c.lines.steps.items _ c.in-Err.error _
    c.lines.invariant.so_far c.first_line.ensures.lines fault c.error_at.ensures
