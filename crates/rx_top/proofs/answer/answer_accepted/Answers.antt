use Rattle.std.proofs.Common.{◌≡◌, [], ap, length, subst, sym}
use Rattle.std.proofs.KnownBytes.{Appends-nil}
use Rattle.rx_rules.specs.Bounds.{node_bound, depth_bound}
use Rattle.rx_lines.specs.Lines.{Written}
use Rattle.rx_root.specs.Paying.{Pays}
use Rattle.rx_words.specs.declared.task.Reading.TheVariants.{Check, Verify}
use Rattle.rx_top.specs.declared.status.Status.TheVariants.{Done}
use Rattle.rx_top.specs.Outcome.{accepted_line, IsLostWork, IsShortWork, IsWork, OrNothing, Writes}
use Rattle.rx_top.specs.Reports.{IsReport, IsLostReport, IsShortReport}
use Rattle.rx_top.proofs.Due.{gives-check, gives-run, gives-verify, line-lost, line-whole, line-whole-with, other-work, run-work, verdict-lost, verdict-work}
use Rattle.rx_top.proofs.answer.answer_accepted.Goals as goal

-- `run`

pub returns-in-Run-clause-gives : goal.returns-in-Run-clause-gives
returns-in-Run-clause-gives g c =
    gives-run c.args.reading c.in-Run.counts c.in-Run.ops c.in-Run.is c.args.checked c.args.script.now c.args.report.now c.run_program.result c.run_program.ensures.gives

pub returns-in-Run-clause-done : goal.returns-in-Run-clause-done
returns-in-Run-clause-done g c whole =
    let done = c.run_program.ensures.gives whole in
    run-work (IsReport Pays c.args.checked c.args.script.now) (λ t. IsWork t c.run_program.result c.args.checked c.args.script.now c.args.report.now) c.in-Run.counts c.in-Run.ops c.args.reading c.new-log.result.options c.in-Run.is
    (ap (λ (w : Written). w.options) c.new-log.ensures) (λ part bodies h. (done, h)) _ _ _ _ (c.run_program.ensures.done done)

pub returns-in-Run-clause-lost : goal.returns-in-Run-clause-lost
returns-in-Run-clause-lost g c h =
    run-work (IsLostReport c.args.checked c.args.script.now) (λ t. IsLostWork t c.args.checked c.args.script.now c.args.report.now) c.in-Run.counts c.in-Run.ops c.args.reading c.new-log.result.options c.in-Run.is
    (ap (λ (w : Written). w.options) c.new-log.ensures) (λ part bodies h. h) _ _ _ _ (c.run_program.ensures.lost h)

pub returns-in-Run-clause-short : goal.returns-in-Run-clause-short
returns-in-Run-clause-short g c h =
    run-work (λ o. OrNothing (IsShortReport c.args.checked c.args.script.now o)) (λ t. IsShortWork t c.args.checked c.args.script.now) c.in-Run.counts c.in-Run.ops c.args.reading c.new-log.result.options c.in-Run.is
    (ap (λ (w : Written). w.options) c.new-log.ensures) (λ part bodies h. h) _ _ _ _ (c.run_program.ensures.short h)

-- `check`

pub returns-in-Check-clause-gives : goal.returns-in-Check-clause-gives
returns-in-Check-clause-gives g c =
    gives-check c.args.reading c.in-Check.is c.args.checked c.args.script.now c.args.report.now c.tell_accepted.result c.tell_accepted.ensures.gives

pub returns-in-Check-clause-done : goal.returns-in-Check-clause-done
returns-in-Check-clause-done g c whole =
    other-work (λ t. IsWork t c.tell_accepted.result c.args.checked c.args.script.now c.args.report.now) c.args.reading Check c.in-Check.is _ _ _ _
    (line-whole-with (c.tell_accepted.result ≡ Done) (c.tell_accepted.ensures.gives whole) (accepted_line (node_bound c.args.checked) (depth_bound c.args.checked) (length c.args.script.now)) _ _ _
    (c.tell_accepted.ensures.done whole))

pub returns-in-Check-clause-lost : goal.returns-in-Check-clause-lost
returns-in-Check-clause-lost g c h =
    other-work (λ t. IsLostWork t c.args.checked c.args.script.now c.args.report.now) c.args.reading Check c.in-Check.is _ _ _ _
    (line-lost (accepted_line (node_bound c.args.checked) (depth_bound c.args.checked) (length c.args.script.now)) _ _ _ (c.tell_accepted.ensures.lost h))

pub returns-in-Check-clause-short : goal.returns-in-Check-clause-short
returns-in-Check-clause-short g c h =
    subst (λ k. Writes (g.K.Sink.written c.args.out.now) (g.K.Sink.written k) c.args.steps.now c.args.steps.now (λ part bodies. IsShortWork c.args.reading c.args.checked c.args.script.now part bodies)) (sym (c.tell_accepted.ensures.short h))
    (other-work (λ t. IsShortWork t c.args.checked c.args.script.now) c.args.reading Check c.in-Check.is _ _ _ _ (line-whole [] _ _ _ (Appends-nil _)))

-- `verify`

pub returns-in-Verify-clause-gives : goal.returns-in-Verify-clause-gives
returns-in-Verify-clause-gives g c =
    gives-verify c.args.reading c.in-Verify.is c.args.checked c.args.script.now c.args.report.now c.tell_verdict.result c.tell_verdict.ensures.gives

pub returns-in-Verify-clause-done : goal.returns-in-Verify-clause-done
returns-in-Verify-clause-done g c whole =
    other-work (λ t. IsWork t c.tell_verdict.result c.args.checked c.args.script.now c.args.report.now) c.args.reading Verify c.in-Verify.is _ _ _ _
    (verdict-work c.args.checked c.args.script.now c.args.report.now c.tell_verdict.result _ _ _ (c.tell_verdict.ensures.done whole))

pub returns-in-Verify-clause-lost : goal.returns-in-Verify-clause-lost
returns-in-Verify-clause-lost g c h =
    other-work (λ t. IsLostWork t c.args.checked c.args.script.now c.args.report.now) c.args.reading Verify c.in-Verify.is _ _ _ _
    (verdict-lost c.args.checked c.args.script.now c.args.report.now _ _ _ (c.tell_verdict.ensures.lost h))

pub returns-in-Verify-clause-short : goal.returns-in-Verify-clause-short
returns-in-Verify-clause-short g c h =
    subst (λ k. Writes (g.K.Sink.written c.args.out.now) (g.K.Sink.written k) c.args.steps.now c.args.steps.now (λ part bodies. IsShortWork c.args.reading c.args.checked c.args.script.now part bodies)) (sym (c.tell_verdict.ensures.short h))
    (other-work (λ t. IsShortWork t c.args.checked c.args.script.now) c.args.reading Verify c.in-Verify.is _ _ _ _ (line-whole [] _ _ _ (Appends-nil _)))
