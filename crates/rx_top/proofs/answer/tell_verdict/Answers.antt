use Rattle.std.proofs.Common.{◌∙◌, refl}
use Rattle.rx_verify.specs.declared.verdict.Verdict.TheVariants.{Yes, No}
use Rattle.rx_verify.specs.Verdicts.{IsVerdict}
use Rattle.rx_top.proofs.Due.{gives-verdict}
use Rattle.rx_top.proofs.answer.tell_verdict.Goals as goal

pub returns-in-Ok-Yes-clause-gives : goal.returns-in-Ok-Yes-clause-gives
returns-in-Ok-Yes-clause-gives g c =
    let found : IsVerdict c.args.checked.now c.args.script.now c.args.report.now Yes = rw c.in-Ok-Yes.field-0-is at c.in-Ok-Yes.ensures in
    gives-verdict c.verdict_is_one.ensures c.args.checked.now c.args.script.now c.args.report.now Yes found c.tell.result c.tell.ensures.gives

pub returns-in-Ok-Yes-clause-done : goal.returns-in-Ok-Yes-clause-done
returns-in-Ok-Yes-clause-done g c whole =
    let found : IsVerdict c.args.checked.now c.args.script.now c.args.report.now Yes = rw c.in-Ok-Yes.field-0-is at c.in-Ok-Yes.ensures in
    (_, (Yes, found, c.tell.ensures.gives whole, refl), c.tell.ensures.done whole)

pub returns-in-Ok-Yes-clause-lost : goal.returns-in-Ok-Yes-clause-lost
returns-in-Ok-Yes-clause-lost g c h =
    let found : IsVerdict c.args.checked.now c.args.script.now c.args.report.now Yes = rw c.in-Ok-Yes.field-0-is at c.in-Ok-Yes.ensures in
    (_, (Yes, found, refl), c.tell.ensures.lost h)

pub returns-in-Ok-clause-gives : goal.returns-in-Ok-clause-gives
returns-in-Ok-clause-gives g c =
    let found : IsVerdict c.args.checked.now c.args.script.now c.args.report.now (No c.in-Ok-No.line) = rw c.in-Ok-No.field-0-is at c.in-Ok-No.ensures in
    gives-verdict c.verdict_is_one.ensures c.args.checked.now c.args.script.now c.args.report.now (No c.in-Ok-No.line) found c.tell-in-Ok.result c.tell-in-Ok.ensures.gives

pub returns-in-Ok-clause-done : goal.returns-in-Ok-clause-done
returns-in-Ok-clause-done g c whole =
    let found : IsVerdict c.args.checked.now c.args.script.now c.args.report.now (No c.in-Ok-No.line) = rw c.in-Ok-No.field-0-is at c.in-Ok-No.ensures in
    (_, (No c.in-Ok-No.line, found, c.tell-in-Ok.ensures.gives whole, c.deref.ensures.value ∙ c.in-Ok.ensures), c.tell-in-Ok.ensures.done whole)

pub returns-in-Ok-clause-lost : goal.returns-in-Ok-clause-lost
returns-in-Ok-clause-lost g c h =
    let found : IsVerdict c.args.checked.now c.args.script.now c.args.report.now (No c.in-Ok-No.line) = rw c.in-Ok-No.field-0-is at c.in-Ok-No.ensures in
    (_, (No c.in-Ok-No.line, found, c.deref.ensures.value ∙ c.in-Ok.ensures), c.tell-in-Ok.ensures.lost h)
